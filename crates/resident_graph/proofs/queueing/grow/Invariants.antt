use Rattle.std.proofs.Common.{◌+◌, ◌-◌, vec_len}
use Rattle.resident_graph.specs.Lists.{Widens}
use Rattle.resident_graph.proofs.queueing.grow.Given as goal

abbrev pub invariant-loop-alloc : goal.invariant-loop-alloc
invariant-loop-alloc l = Widens l.fn.queue.items l.queue.items

abbrev pub decreases-loop-alloc : goal.decreases-loop-alloc
decreases-loop-alloc l = l.level + 1 - vec_len l.queue
