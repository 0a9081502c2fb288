use Rattle.std.proofs.Common.{drop}
use Rattle.mj_members.specs.Rows.{field_rows, SayAlike}
use Rattle.member_queries.specs.Members.{fields_of_header, rows_along}
use Rattle.member_queries.proofs.members.field_table.Given as goal

abbrev pub invariant-loop-number : goal.invariant-loop-number
invariant-loop-number l = SayAlike (field_rows l.rows.entries) (rows_along (λ f. f.name) fields_of_header (drop l.number l.links))
