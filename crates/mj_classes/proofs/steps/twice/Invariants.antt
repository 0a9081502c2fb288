use Rattle.std.proofs.Common.{◌≡◌, map, take}
use Rattle.mj_classes.specs.Steps.{led}
use Rattle.mj_classes.proofs.steps.twice.Given as goal

abbrev pub invariant-loop-at : goal.invariant-loop-at
invariant-loop-at l = l.far.items ≡ map (led l.steps) (take l.at-index l.steps)
