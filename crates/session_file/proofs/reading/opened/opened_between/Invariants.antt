use Rattle.std.proofs.Common.{◌-◌, ◌≤◌, length}
use Rattle.session_file.proofs.reading.opened.opened_between.Given as goal

abbrev pub invariant-loop-at : goal.invariant-loop-at
invariant-loop-at l = l.at ≤ length l.records

abbrev pub decreases-loop-at : goal.decreases-loop-at
decreases-loop-at l = l.to - l.at
