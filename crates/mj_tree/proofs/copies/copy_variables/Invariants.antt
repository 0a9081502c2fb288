use Rattle.std.proofs.Common.{◌≡◌, take}
use Rattle.mj_tree.proofs.copies.copy_variables.Given as goal

abbrev pub invariant-loop-variable : goal.invariant-loop-variable
invariant-loop-variable l = l.copies.items ≡ take l.variable-index l.variables
