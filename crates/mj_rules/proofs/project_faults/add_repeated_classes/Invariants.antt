use Rattle.std.proofs.Common.{◌≡◌, ◌++◌, drop}
use Rattle.mj_members.specs.Classes.{classes_view}
use Rattle.named_files.specs.Repeats.{repeats}
use Rattle.named_files.specs.Projects.{sources_view}
use Rattle.mj_rules.specs.FaultLists.{class_names, repeated_class_faults, each_numbered}
use Rattle.mj_rules.proofs.project_faults.add_repeated_classes.Given as goal

abbrev pub invariant-loop-number : goal.invariant-loop-number
invariant-loop-number l =
    l.faults.items ++ each_numbered (repeated_class_faults (sources_view l.files)) l.number (drop l.number (classes_view l.classes)) (drop l.number (repeats (class_names (classes_view l.classes))))
    ≡ l.initial.faults.items ++ each_numbered (repeated_class_faults (sources_view l.files)) 0 (classes_view l.classes) (repeats (class_names (classes_view l.classes)))
