use Rattle.std.proofs.Common.{◌-◌, length}
use Rattle.mj_members.specs.Classes.{classes_view}
use Rattle.mj_classes.proofs.Ancestors.{Seeks}
use Rattle.mj_classes.proofs.declarations.Declarations.descends.Given as goal

abbrev pub invariant-loop-step : goal.invariant-loop-step
invariant-loop-step l =
    Seeks (classes_view l.self.classes.items) l.class l.ancestor (length (classes_view l.self.classes.items) - l.step) l.at l.passed
