use Rattle.std.proofs.Common.{take}
use Rattle.run_fixtures.specs.Reading.{AreReadsOf}
use Rattle.run_fixtures.proofs.reads.are_reads.Given as goal

abbrev pub invariant-loop-at : goal.invariant-loop-at
invariant-loop-at l = AreReadsOf (take l.at l.given) (take l.at l.reads)
