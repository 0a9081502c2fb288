use Rattle.std.proofs.Common.{length}
use Rattle.crew_fixtures.proofs.seats.+stop_from.Given as goal

abbrev pub decreases-stop_from : goal.decreases-stop_from
decreases-stop_from g l = length l.trees.now
