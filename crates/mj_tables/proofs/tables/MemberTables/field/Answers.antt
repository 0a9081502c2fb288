use Rattle.std.proofs.Common.{◌∙◌, map, ap, sym}
use Rattle.mj_members.specs.Classes.{field_member_view}
use Rattle.mj_members.specs.Tables.{fields_along}
use Rattle.mj_classes.specs.Chains.{ancestry}
use Rattle.mj_classes.specs.Index.{declared_in}
use Rattle.mj_classes.specs.Members.{own_field}
use Rattle.mj_tables.proofs.Finding.{table_ascends, found_nearest, none_undeclared}
use Rattle.mj_tables.proofs.tables.MemberTables.field.Goals as goal

pub returns-in_err-table : goal.returns-in_err-table
returns-in_err-table c = rw c.from_residual.ensures (sym (none_undeclared (own_field c.args.name.now) (declared_in c.args.self.now) c.args.class.now c.in_err-table.ensures))

pub find_by_name-requires : goal.find_by_name-requires
unfolding fields_along
find_by_name-requires c =
    table_ascends field_member_view (λ f. f.name) (λ k. k.fields) (ancestry (declared_in c.args.self.now) c.args.class.now) c.deref.result.now (ap (map field_member_view) c.deref.ensures.value ∙ c.in_ok-table.ensures.fields)

pub returns : goal.returns
unfolding fields_along
returns c =
    found_nearest field_member_view (λ f. f.name) (λ k. k.fields) (ancestry (declared_in c.args.self.now) c.args.class.now) c.deref.result.now c.args.name.now c.copied.result
    (ap (map field_member_view) c.deref.ensures.value ∙ c.in_ok-table.ensures.fields) (c.copied.ensures ∙ c.find_by_name.ensures)
