use Rattle.std.proofs.Common.{◌++◌, map, drop}
use Rattle.mj_members.specs.Tables.{own_rows}
use Rattle.mj_members.specs.Rows.{field_rows, SayAlike}
use Rattle.member_queries.proofs.members.lay_fields.Given as goal

abbrev pub invariant-loop-number : goal.invariant-loop-number
invariant-loop-number l = SayAlike (field_rows l.rows.entries) (own_rows (λ f. f.name) l.owner (map (λ f. f) (drop l.number l.fields)) ++ field_rows l.initial.rows.entries)
