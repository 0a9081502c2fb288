use Rattle.std.proofs.Common.{◌++◌, map, drop}
use Rattle.mj_members.specs.Tables.{own_rows}
use Rattle.mj_members.specs.Rows.{SayAlike}
use Rattle.member_queries.specs.MemberTables.{name_rows}
use Rattle.member_queries.proofs.members.lay_methods.Given as goal

abbrev pub invariant-loop-number : goal.invariant-loop-number
invariant-loop-number l = SayAlike (name_rows l.rows.entries) (own_rows (λ n. n) l.owner (map (λ n. n) (drop l.number l.names)) ++ name_rows l.initial.rows.entries)
