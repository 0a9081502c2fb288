use Rattle.std.proofs.Common.{take}
use Rattle.table_fixtures.specs.Told.{InTurn}
use Rattle.table_fixtures.specs.Called.{IsBrought}
use Rattle.table_fixtures.proofs.histories.all_done.Given as goal

abbrev pub invariant-loop-kept : goal.invariant-loop-kept
invariant-loop-kept l = InTurn (IsBrought l.records) (take l.kept-index l.brought) l.initial.table l.table
