use Rattle.std.proofs.Common.{take}
use Rattle.table_fixtures.specs.Told.{AreAnswersAt}
use Rattle.table_fixtures.proofs.runs.add_all.Given as goal

abbrev pub invariant-loop-edge : goal.invariant-loop-edge
invariant-loop-edge l = AreAnswersAt l.records (take l.edge-index l.edges) l.list
