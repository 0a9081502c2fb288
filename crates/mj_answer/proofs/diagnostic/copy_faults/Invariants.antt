use Rattle.std.proofs.Common.{◌≡◌, take}
use Rattle.mj_answer.proofs.diagnostic.copy_faults.Given as goal

abbrev pub invariant-loop-fault : goal.invariant-loop-fault
invariant-loop-fault l = l.copies.items ≡ take l.fault-index l.faults
