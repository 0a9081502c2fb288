use Rattle.std.proofs.Common.{◌≡◌, ◌++◌, ◌+◌, map, drop}
use Rattle.tree_bytes.specs.Stored.{stored_class}
use Rattle.mj_classes.specs.Declarations.{number_classes}
use Rattle.answer_queries.specs.ProjectFaults.{named_classes, names_view}
use Rattle.answer_queries.proofs.project_faults.add_classes.Given as goal

-- those so far and those of the rest are those of all
abbrev pub invariant-loop-n : goal.invariant-loop-n
invariant-loop-n l =
    names_view l.classes.items ++ named_classes (number_classes l.file (l.first + l.n) (map stored_class (drop l.n l.class-items)))
    ≡ names_view l.initial.classes.items ++ named_classes (number_classes l.file l.first l.tree.classes)
