use Rattle.std.proofs.Common.{◌≡◌, ◌≤◌}
use Rattle.mj_members.specs.Classes.{classes_view}
use Rattle.mj_classes.specs.Walks.{Stretch}
use Rattle.mj_classes.proofs.declarations.Declarations.keep_until.Given as goal

abbrev pub invariant-loop : goal.invariant-loop
invariant-loop l =
    (w : Stretch (classes_view l.self.classes.items) l.fn.from l.stop (classes_view l.initial.classes.items))
    → (v : Stretch (classes_view l.self.classes.items) l.at l.stop (classes_view l.classes.items)) × (v.chain ≡ w.chain) × (v.goal ≡ w.goal) × (l.counter ≤ v.number)
