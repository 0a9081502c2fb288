use Rattle.std.proofs.Common.{◌≤◌, length}
use Rattle.session_cache.proofs.folders.first_to_read.Given as goal

abbrev pub invariant-loop-first : goal.invariant-loop-first
invariant-loop-first g l = l.first ≤ length l.numbers

abbrev pub decreases-loop-first : goal.decreases-loop-first
decreases-loop-first g l = l.first
