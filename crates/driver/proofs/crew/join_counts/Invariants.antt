use Rattle.std.proofs.Common.{◌≡◌, ◌+◌, vec_len}
use Rattle.std.specs.Prelude.{sum}
use Rattle.driver.proofs.crew.join_counts.Given as goal

abbrev pub invariant-loop-worker : goal.invariant-loop-worker
invariant-loop-worker g l = (sum l.events.items ≡ l.all.amount) × (l.all.parts + vec_len l.left ≡ l.fn.all.parts + vec_len l.fn.team) × (vec_len l.events + vec_len l.left ≡ vec_len l.fn.team)

abbrev pub decreases-loop-worker : goal.decreases-loop-worker
decreases-loop-worker g l = vec_len l.left
