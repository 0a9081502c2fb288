use Rattle.std.proofs.Common.{◌≡◌, find}
use Rattle.mj_parser.specs.Locations.{begins_method, numbers}
use Rattle.mj_parser.proofs.location.method_start.Given as goal

abbrev pub invariant-loop-at : goal.invariant-loop-at
invariant-loop-at l = find (begins_method l.tokens l.method) (numbers l.at l.end) ≡ find (begins_method l.tokens l.method) (numbers l.start l.end)
