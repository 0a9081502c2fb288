use Rattle.std.proofs.Common.{◌≡◌, ℕ, ◌<◌, false, Some, length}
use Rattle.item_ids.specs.Inputs.{rank}
use Rattle.graph_rules.specs.Keys.{input_of}
use Rattle.resident_graph.specs.Lists.{key_in, value_in, flag_in, IsQueue, AreNoFewer}
use Rattle.resident_graph.proofs.graph.queue_stale.Given as goal

abbrev pub invariant-loop-at : goal.invariant-loop-at
invariant-loop-at l = (length l.queued.items ≡ length l.fn.queued.items)
    × IsQueue l.keys.keys l.queued.items l.queue.items
    × AreNoFewer l.fn.queued.items l.queued.items
    × ((i : ℕ) → i < l.at → rank (key_in l.keys.keys i) ≡ 0 → flag_in l.queued.items i ≡ false → input_of l.inputs (key_in l.keys.keys i) ≡ Some (value_in l.values i))
