use Rattle.std.proofs.Common.{◌++◌, map, drop}
use Rattle.mj_members.specs.Classes.{field_member_view}
use Rattle.mj_members.specs.Tables.{named_rows}
use Rattle.mj_members.specs.Rows.{field_rows, SayAlike}
use Rattle.mj_members.proofs.member.lay_fields.Given as goal

abbrev pub invariant-loop-number : goal.invariant-loop-number
invariant-loop-number l = SayAlike (field_rows l.rows.entries) (named_rows (λ f. f.name) (map field_member_view (drop l.number l.fields)) ++ field_rows l.initial.rows.entries)
