use Rattle.std.proofs.Common.{take}
use Rattle.session_fixtures.specs.Telling.{AreRecordsOf}
use Rattle.session_fixtures.proofs.records.records_of.Given as goal

abbrev pub invariant-loop-one : goal.invariant-loop-one
invariant-loop-one l = AreRecordsOf (take l.one-index l.kept) l.records.items
