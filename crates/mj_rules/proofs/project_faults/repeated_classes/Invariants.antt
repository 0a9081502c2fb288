use Rattle.std.proofs.Common.{◌≡◌, map, take}
use Rattle.mj_members.specs.Classes.{classes_view}
use Rattle.mj_rules.specs.FaultLists.{class_names}
use Rattle.mj_rules.proofs.project_faults.repeated_classes.Given as goal

abbrev pub invariant-loop-class : goal.invariant-loop-class
invariant-loop-class l = map (λ n. n.now) l.names.items ≡ class_names (classes_view (take l.class-index l.classes))
