use Rattle.std.proofs.Common.{◌≡◌, ℕ, true, Contains, vec_len}
use Rattle.resident_graph.specs.Lists.{flag_in}
use Rattle.resident_graph.proofs.queueing.trim_level.Given as goal

abbrev pub invariant-loop-at : goal.invariant-loop-at
invariant-loop-at l = (i : ℕ) → flag_in l.queued i ≡ true → Contains l.fn.places.items i → Contains l.places.items i

abbrev pub decreases-loop-at : goal.decreases-loop-at
decreases-loop-at l = vec_len l.places
