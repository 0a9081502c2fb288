use Rattle.std.proofs.Common.{drop}
use Rattle.mj_members.specs.Rows.{SayAlike}
use Rattle.member_queries.specs.Members.{methods_of_header, rows_along}
use Rattle.member_queries.specs.MemberTables.{name_rows}
use Rattle.member_queries.proofs.members.method_table.Given as goal

abbrev pub invariant-loop-number : goal.invariant-loop-number
invariant-loop-number l = SayAlike (name_rows l.rows.entries) (rows_along (λ n. n) methods_of_header (drop l.number l.links))
