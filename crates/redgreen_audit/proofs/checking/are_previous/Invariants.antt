use Rattle.std.proofs.Common.{◌≡◌, take, map, length}
use Rattle.redgreen_audit.specs.Checks.{named, previous_at}
use Rattle.redgreen_audit.proofs.checking.are_previous.Given as goal

abbrev pub invariant-loop-i : goal.invariant-loop-i
invariant-loop-i l = record {
  as_long : length l.reads ≡ length l.had;
  same : map (previous_at l.now) (take l.i l.reads) ≡ map named (take l.i l.had);
}
