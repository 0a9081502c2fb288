use Rattle.std.proofs.Common.{◌≡◌, length}
use Rattle.crew_fixtures.proofs.seats.trees_of.Given as goal

abbrev pub invariant-loop-number : goal.invariant-loop-number
invariant-loop-number l = length l.keys.items ≡ l.number
