use Rattle.std.proofs.Common.{◌≡◌, take}
use Rattle.mj_classes.specs.Declarations.{place}
use Rattle.std.specs.Prelude.{map, option_and_then}
use Rattle.mj_members.specs.Classes.{class_ref_view, classes_view}
use Rattle.mj_classes.proofs.declarations.link.Given as goal

abbrev pub invariant-loop-class : goal.invariant-loop-class
invariant-loop-class l =
    l.places.items ≡ map (λ k. option_and_then (place (classes_view l.classes)) (class_ref_view k).superclass) (take l.class-index l.classes)
