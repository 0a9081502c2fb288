use Rattle.std.proofs.Common.{◌≡◌, ◌++◌, take}
use Rattle.member_queries.proofs.diags.add_faults.Given as goal

abbrev pub invariant-loop-fault : goal.invariant-loop-fault
invariant-loop-fault l = l.faults.items ≡ l.initial.faults.items ++ take l.fault-index l.more
