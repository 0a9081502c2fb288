use Rattle.std.proofs.Common.{◌≡◌, ℕ, ◌<◌, length, []}
use Rattle.resident_graph.specs.Lists.{list_in, IsQueue}
use Rattle.resident_graph.proofs.queueing.next_queued.Given as goal

abbrev pub invariant-loop-level : goal.invariant-loop-level
invariant-loop-level l = (length l.queue.items ≡ length l.fn.queue.items)
    × IsQueue l.keys.keys l.queued l.queue.items
    × ((k : ℕ) → k < l.level → list_in l.queue.items k ≡ [])
