use Rattle.std.proofs.Common.{◌≡◌, map, take}
use Rattle.mj_members.specs.Classes.{method_member_view}
use Rattle.mj_rules.specs.Tables.{method_row}
use Rattle.mj_rules.proofs.tables.method_rows.Given as goal

abbrev pub invariant-loop-member : goal.invariant-loop-member
invariant-loop-member l = l.rows.items ≡ map method_row (map method_member_view (take l.member-index l.members))
