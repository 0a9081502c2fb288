use Rattle.std.proofs.Common.{◌≡◌, ◌++◌, map, subst}
use Rattle.std.specs.BTreeMap.{values}
use Rattle.std.proofs.lemmas.Result.{IfOk-weaker}
use Rattle.mj_members.specs.Classes.{class_ref_view, method_member_view}
use Rattle.mj_members.specs.Tables.{own_rows, named_rows, methods_over}
use Rattle.mj_members.specs.Rows.{method_rows, SayAlike}
use Rattle.mj_members.proofs.Rows.{alike_over, table_from, without_more}
use Rattle.mj_members.proofs.member.method_table_over.Goals as goal

pub returns : goal.returns
unfolding methods_over
returns c =
    let class = class_ref_view c.args.class.now in
    let behind = named_rows (λ m. m.name) (map method_member_view c.args.inherited.now) in
    let own = own_rows (λ m. m.name) class.name class.methods in
    let inherited : SayAlike (method_rows c.lay_methods.new.rows.entries) behind =
    without_more (method_rows c.lay_methods.new.rows.entries) behind (subst (λ es. SayAlike (method_rows c.lay_methods.new.rows.entries) (behind ++ method_rows es)) c.new-rows.ensures.empty c.in_ok-lay_methods.ensures) in
    let all = alike_over (method_rows c.lay_own_methods.new.rows.entries) (method_rows c.lay_methods.new.rows.entries) behind own inherited c.in_ok-lay_own_methods.ensures in
    IfOk-weaker c.in_order.result (λ v. v.items ≡ values c.lay_own_methods.new.rows) _
    (λ v e. table_from method_member_view c.lay_own_methods.new.rows.entries v.items (own ++ behind) c.in_order.ensures.ordered all e) c.in_order.ensures.values
