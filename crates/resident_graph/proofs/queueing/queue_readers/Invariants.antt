use Rattle.std.proofs.Common.{◌≡◌, ◌⊎◌, ℕ, ◌<◌, true, length, get_or}
use Rattle.item_ids.specs.declared.key.Key.{Key}
use Rattle.result_bytes.specs.declared.value.Value.{Value}
use Rattle.resident_graph.specs.Lists.{key_in, value_in, flag_in, IsQueue, AreNoFewer}
use Rattle.resident_graph.proofs.queueing.queue_readers.Given as goal

abbrev pub invariant-loop-reader : goal.invariant-loop-reader
invariant-loop-reader g l = (length l.queued.items ≡ length l.fn.queued.items)
    × IsQueue l.keys.keys l.queued.items l.queue.items
    × AreNoFewer l.fn.queued.items l.queued.items
    × ((read : Key) (old new : Value) → g.R.Keeping.tells l.change read old new → (k : ℕ) → k < l.reader-index → get_or l.readers k 0 < length l.fn.queued.items
    → (flag_in l.queued.items (get_or l.readers k 0) ≡ true) ⊎ (g.R.Keeping.kept (key_in l.keys.keys (get_or l.readers k 0)) (value_in l.values (get_or l.readers k 0)) read old new ≡ true))
