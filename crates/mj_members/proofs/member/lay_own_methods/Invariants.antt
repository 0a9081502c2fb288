use Rattle.std.proofs.Common.{◌++◌, map, drop}
use Rattle.mj_tree.specs.Views.{method_view}
use Rattle.mj_members.specs.Tables.{own_rows}
use Rattle.mj_members.specs.Rows.{method_rows, SayAlike}
use Rattle.mj_members.proofs.member.lay_own_methods.Given as goal

abbrev pub invariant-loop-number : goal.invariant-loop-number
invariant-loop-number l = SayAlike (method_rows l.rows.entries) (own_rows (λ m. m.name) l.owner (map method_view (drop l.number l.methods)) ++ method_rows l.initial.rows.entries)
