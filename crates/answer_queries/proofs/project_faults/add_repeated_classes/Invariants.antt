use Rattle.std.proofs.Common.{◌≡◌, ◌++◌, drop}
use Rattle.named_files.specs.Repeats.{repeats}
use Rattle.mj_rules.specs.FaultLists.{each_numbered}
use Rattle.answer_queries.specs.Trees.{named_trees}
use Rattle.answer_queries.specs.ProjectFaults.{class_names, names_view, repeat_faults, classes_faults}
use Rattle.answer_queries.proofs.project_faults.add_repeated_classes.Given as goal

-- those so far and those of the rest are those of all
abbrev pub invariant-loop-number : goal.invariant-loop-number
invariant-loop-number l =
    l.faults.items ++ each_numbered (repeat_faults (named_trees l.files)) l.number (drop l.number (names_view l.classes)) (drop l.number (repeats (class_names (names_view l.classes))))
    ≡ l.initial.faults.items ++ classes_faults (named_trees l.files) (names_view l.classes)
