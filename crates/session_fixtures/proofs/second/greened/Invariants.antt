use Rattle.std.proofs.Common.{take}
use Rattle.std.specs.List.{AllZip}
use Rattle.session_fixtures.specs.Telling.{IsTakenOverRecord}
use Rattle.session_fixtures.proofs.second.greened.Given as goal

abbrev pub invariant-loop-one : goal.invariant-loop-one
invariant-loop-one l = AllZip IsTakenOverRecord (take l.one-index l.kept) l.again.items
