use Rattle.std.proofs.Common.{◌≡◌, ◌+◌, vec_len}
use Rattle.driver.proofs.crew.make_workers.Given as goal

abbrev pub invariant-loop-left : goal.invariant-loop-left
invariant-loop-left g l = (vec_len l.team + l.left ≡ l.fn.workers) × (l.all.parts + vec_len l.team ≡ l.fn.all.parts) × (l.all.amount ≡ 0)

abbrev pub decreases-loop-left : goal.decreases-loop-left
decreases-loop-left g l = l.left
