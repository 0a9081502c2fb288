use Rattle.std.proofs.Common.{◌≡◌, [], take}
use Rattle.redgreen_audit.specs.Checks.{HaveOnce}
use Rattle.redgreen_audit.proofs.keys.are_distinct.Given as goal

abbrev pub invariant-loop-place : goal.invariant-loop-place
invariant-loop-place l = record {
  once : HaveOnce [] (take l.place-index l.places);
  seen : l.seen.keys ≡ take l.place-index l.places;
}
