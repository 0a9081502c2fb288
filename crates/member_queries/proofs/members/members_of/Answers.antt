use Rattle.std.proofs.Common.{sym, subst}
use Rattle.ordered_names.specs.Order.{IsAscendingByName}
use Rattle.mj_answer.specs.Order.{IsTableInOrder}
use Rattle.member_queries.proofs.MemberTables.{fields_ascend}
use Rattle.member_queries.proofs.members.members_of.Goals as goal

pub new-requires : goal.new-requires
new-requires c =
    subst IsTableInOrder (sym c.new-table.ensures)
    (subst (IsAscendingByName (λ row. row.name)) (sym c.in_ok-fields.ensures) (fields_ascend c.args.links.now), c.requires)
