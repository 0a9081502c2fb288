use Rattle.std.proofs.Common.{drop}
use Rattle.mj_members.specs.Classes.{classes_view}
use Rattle.mj_members.specs.Tables.{all_along}
use Rattle.mj_members.specs.Rows.{field_rows, SayAlike}
use Rattle.mj_members.proofs.member.field_table.Given as goal

abbrev pub invariant-loop-number : goal.invariant-loop-number
invariant-loop-number l = SayAlike (field_rows l.rows.entries) (all_along (λ f. f.name) (λ k. k.fields) (classes_view (drop l.number l.classes)))
