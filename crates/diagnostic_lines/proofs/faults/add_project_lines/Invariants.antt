use Rattle.std.proofs.Common.{List, ◌++◌, map, take}
use Rattle.diagnostic_lines.specs.Pairs.{Pairwise}
use Rattle.diagnostic_lines.specs.FaultLines.{AnswerDiagnostic, of_project, IsLineOf}
use Rattle.diagnostic_lines.proofs.faults.add_project_lines.Given as goal

abbrev pub invariant-loop-fault : goal.invariant-loop-fault
invariant-loop-fault l = (before : List AnswerDiagnostic) → Pairwise (IsLineOf l.texts) before l.initial.lines.items
    → Pairwise (IsLineOf l.texts) (before ++ map of_project (take l.fault-index l.faults)) l.lines.items
