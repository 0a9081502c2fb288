use Rattle.std.proofs.Common.{◌≡◌, map, take}
use Rattle.answer_queries.specs.ProjectFaults.{class_names, names_view}
use Rattle.answer_queries.proofs.project_faults.repeated_classes.Given as goal

abbrev pub invariant-loop-class : goal.invariant-loop-class
invariant-loop-class l = map (λ n. n.now) l.names.items ≡ class_names (names_view (take l.class-index l.classes))
