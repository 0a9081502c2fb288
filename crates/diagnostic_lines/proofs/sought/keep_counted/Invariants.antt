use Rattle.std.proofs.Common.{◌≡◌, take}
use Rattle.diagnostic_lines.proofs.sought.keep_counted.Given as goal

abbrev pub invariant-loop-number : goal.invariant-loop-number
invariant-loop-number l = l.kept.items ≡ take l.number l.texts
