use Rattle.std.proofs.Common.{◌≡◌, take}
use Rattle.mj_answer.proofs.table.copy_methods.Given as goal

abbrev pub invariant-loop-row : goal.invariant-loop-row
invariant-loop-row l = l.copies.items ≡ take l.row-index l.rows
