use Rattle.std.proofs.Common.{◌≡◌, map, take}
use Rattle.mj_members.specs.Classes.{field_member_view}
use Rattle.mj_rules.specs.Tables.{field_row}
use Rattle.mj_rules.proofs.tables.field_rows.Given as goal

abbrev pub invariant-loop-member : goal.invariant-loop-member
invariant-loop-member l = l.rows.items ≡ map field_row (map field_member_view (take l.member-index l.members))
