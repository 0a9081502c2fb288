use Rattle.std.proofs.Common.{◌≡◌, ◌++◌, map, subst}
use Rattle.std.specs.BTreeMap.{values}
use Rattle.std.proofs.lemmas.Result.{IfOk-weaker}
use Rattle.mj_members.specs.Classes.{class_ref_view, field_member_view}
use Rattle.mj_members.specs.Tables.{own_rows, named_rows, fields_over}
use Rattle.mj_members.specs.Rows.{field_rows, SayAlike}
use Rattle.mj_members.proofs.Rows.{alike_over, table_from, without_more}
use Rattle.mj_members.proofs.member.field_table_over.Goals as goal

pub returns : goal.returns
unfolding fields_over
returns c =
    let class = class_ref_view c.args.class.now in
    let behind = named_rows (λ f. f.name) (map field_member_view c.args.inherited.now) in
    let own = own_rows (λ f. f.name) class.name class.fields in
    let inherited : SayAlike (field_rows c.lay_fields.new.rows.entries) behind =
    without_more (field_rows c.lay_fields.new.rows.entries) behind (subst (λ es. SayAlike (field_rows c.lay_fields.new.rows.entries) (behind ++ field_rows es)) c.new-rows.ensures.empty c.in_ok-lay_fields.ensures) in
    let all = alike_over (field_rows c.lay_own_fields.new.rows.entries) (field_rows c.lay_fields.new.rows.entries) behind own inherited c.in_ok-lay_own_fields.ensures in
    IfOk-weaker c.in_order.result (λ v. v.items ≡ values c.lay_own_fields.new.rows) _
    (λ v e. table_from field_member_view c.lay_own_fields.new.rows.entries v.items (own ++ behind) c.in_order.ensures.ordered all e) c.in_order.ensures.values
