use Rattle.std.proofs.Common.{◌≡◌, take}
use Rattle.std.specs.Prelude.{map}
use Rattle.mj_members.specs.Declarations.{has_members}
use Rattle.mj_members.specs.Classes.{class_ref_view}
use Rattle.mj_classes.proofs.declarations.flag_members.Given as goal

abbrev pub invariant-loop-class : goal.invariant-loop-class
invariant-loop-class l =
    l.flags.items ≡ map (λ k. has_members (class_ref_view k)) (take l.class-index l.classes)
