use Rattle.std.proofs.Common.{take}
use Rattle.table_fixtures.specs.Told.{InTurn}
use Rattle.table_fixtures.specs.Called.{IsSaid}
use Rattle.table_fixtures.proofs.calls.all_say.Given as goal

abbrev pub invariant-loop-saying : goal.invariant-loop-saying
invariant-loop-saying l = InTurn IsSaid (take l.saying-index l.sayings) l.initial.table l.table
