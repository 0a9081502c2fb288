use Rattle.std.proofs.Common.{◌≡◌, ℕ, List, ◌++◌, take}
use Rattle.std.specs.List.{flat_map}
use Rattle.devices.proofs.putting.put_parts.Given as goal

abbrev pub invariant-loop-part : goal.invariant-loop-part
invariant-loop-part g l = record {
  holds : (front : List ℕ) → g.W.Sink.holds l.initial.sink front → g.W.Sink.holds l.sink (front ++ flat_map (λ part. part.now) (take l.part-index l.parts));
  failed : g.W.Sink.failed l.sink ≡ g.W.Sink.failed l.initial.sink;
}
