use Rattle.std.proofs.Common.{◌≡◌, ℕ, ◌-◌, ◌≤◌, List, ◌++◌, length, take}
use Rattle.devices.proofs.putting.put_all.Given as goal

abbrev pub invariant-loop-at : goal.invariant-loop-at
invariant-loop-at g l = record {
  within : l.at ≤ length l.bytes;
  holds : (front : List ℕ) → g.W.Sink.holds l.initial.sink front → g.W.Sink.holds l.sink (front ++ take l.at l.bytes);
  failed : g.W.Sink.failed l.sink ≡ g.W.Sink.failed l.initial.sink;
}

abbrev pub decreases-loop-at : goal.decreases-loop-at
decreases-loop-at g l = length l.bytes - l.at
