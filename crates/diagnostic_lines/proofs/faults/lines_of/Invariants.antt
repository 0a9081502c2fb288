use Rattle.std.proofs.Common.{◌++◌, map, flat_map, take}
use Rattle.diagnostic_lines.specs.Pairs.{Pairwise}
use Rattle.diagnostic_lines.specs.FaultLines.{of_project, of_class, IsLineOf}
use Rattle.diagnostic_lines.proofs.faults.lines_of.Given as goal

abbrev pub invariant-loop-class : goal.invariant-loop-class
invariant-loop-class l =
    Pairwise (IsLineOf l.texts) (map of_project l.answer.faults ++ flat_map (λ class. map (of_class class.name) class.faults) (take l.class-index l.class-items)) l.lines.items
