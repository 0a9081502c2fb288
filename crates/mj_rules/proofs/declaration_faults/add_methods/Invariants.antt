use Rattle.std.proofs.Common.{◌≡◌, ◌++◌, map, drop}
use Rattle.mj_tree.specs.Views.{method_view}
use Rattle.mj_classes.specs.Index.{declared_in}
use Rattle.named_files.specs.Repeats.{repeats}
use Rattle.mj_members.specs.Classes.{class_ref_view}
use Rattle.mj_rules.specs.FaultLists.{method_faults_of, nearest_sig, rest_of, each_numbered}
use Rattle.mj_rules.proofs.declaration_faults.add_methods.Given as goal

abbrev pub invariant-loop-number : goal.invariant-loop-number
invariant-loop-number l =
    l.faults.items ++ each_numbered (method_faults_of l.profile (declared_in l.tables) (nearest_sig (rest_of (declared_in l.tables) (class_ref_view l.class).name))) l.number (drop l.number (map method_view l.methods)) (drop l.number (repeats (map (λ m. m.name) (map method_view l.methods))))
    ≡ l.initial.faults.items ++ each_numbered (method_faults_of l.profile (declared_in l.tables) (nearest_sig (rest_of (declared_in l.tables) (class_ref_view l.class).name))) 0 (map method_view l.methods) (repeats (map (λ m. m.name) (map method_view l.methods)))
