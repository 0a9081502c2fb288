use Rattle.std.proofs.Common.{◌≡◌, [], take, map}
use Rattle.redgreen_audit.specs.Checks.{HaveNew}
use Rattle.redgreen_audit.proofs.keys.first_repeated.Given as goal

abbrev pub invariant-loop-n : goal.invariant-loop-n
invariant-loop-n l = record {
  new : HaveNew [] (take l.n l.records);
  seen : map (λ b. b.now) l.seen.keys ≡ map (λ r. r.key) (take l.n l.records);
}
