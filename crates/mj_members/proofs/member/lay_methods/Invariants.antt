use Rattle.std.proofs.Common.{◌++◌, map, drop}
use Rattle.mj_members.specs.Classes.{method_member_view}
use Rattle.mj_members.specs.Tables.{named_rows}
use Rattle.mj_members.specs.Rows.{method_rows, SayAlike}
use Rattle.mj_members.proofs.member.lay_methods.Given as goal

abbrev pub invariant-loop-number : goal.invariant-loop-number
invariant-loop-number l = SayAlike (method_rows l.rows.entries) (named_rows (λ m. m.name) (map method_member_view (drop l.number l.methods)) ++ method_rows l.initial.rows.entries)
