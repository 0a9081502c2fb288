use Rattle.std.proofs.Common.{take}
use Rattle.run_fixtures.specs.Reading.{AreReadsOf}
use Rattle.run_fixtures.proofs.answers.add_all.Given as goal

abbrev pub invariant-loop-one : goal.invariant-loop-one
invariant-loop-one l = AreReadsOf (take l.one-index l.given) l.list
