use Rattle.std.proofs.Common.{◌∙◌, arith}
use Rattle.std.specs.Prelude.{option_and_then}
use Rattle.mj_members.specs.Declarations.{ClassDecl}
use Rattle.mj_classes.specs.Declarations.{place}
use Rattle.mj_members.specs.Classes.{class_ref_view, classes_view}
use Rattle.mj_classes.proofs.Places.{all_mapped}
use Rattle.mj_classes.proofs.declarations.link.Goals as goal

pub returns : goal.returns
returns c =
    c.loop-class.invariant
    ∙ all_mapped class_ref_view (λ (k : ClassDecl). option_and_then (place (classes_view c.args.classes.now)) k.superclass) c.args.classes.now c.loop-class.class-index (omega arith)
