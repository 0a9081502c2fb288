use Rattle.std.proofs.Common.{◌≡◌, ◌++◌, map, drop}
use Rattle.mj_tree.specs.Views.{method_view}
use Rattle.named_files.specs.Repeats.{repeats}
use Rattle.mj_classes.specs.Index.{declared_in}
use Rattle.mj_rules.specs.FaultLists.{body_faults_of, each_numbered}
use Rattle.mj_rules.proofs.body_faults.add_bodies.Given as goal

abbrev pub invariant-loop-number : goal.invariant-loop-number
invariant-loop-number l =
    l.faults.items ++ each_numbered (body_faults_of (declared_in l.world.tables.now) l.class) l.number (drop l.number (map method_view l.methods)) (drop l.number (repeats (map (λ m. m.name) (map method_view l.methods))))
    ≡ l.initial.faults.items ++ each_numbered (body_faults_of (declared_in l.world.tables.now) l.class) 0 (map method_view l.methods) (repeats (map (λ m. m.name) (map method_view l.methods)))
