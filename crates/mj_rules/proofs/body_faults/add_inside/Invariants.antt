use Rattle.std.proofs.Common.{◌≡◌, ◌++◌, take}
use Rattle.mj_rules.specs.FaultLists.{inside}
use Rattle.mj_rules.proofs.body_faults.add_inside.Given as goal

abbrev pub invariant-loop-mistake : goal.invariant-loop-mistake
invariant-loop-mistake l = l.faults.items ≡ l.initial.faults.items ++ inside l.method (take l.mistake-index l.mistakes)
