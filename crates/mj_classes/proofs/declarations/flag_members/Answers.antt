use Rattle.std.proofs.Common.{◌∙◌, arith}
use Rattle.mj_members.specs.Declarations.{has_members}
use Rattle.mj_members.specs.Classes.{class_ref_view}
use Rattle.mj_classes.proofs.Places.{all_mapped}
use Rattle.mj_classes.proofs.declarations.flag_members.Goals as goal

pub returns : goal.returns
returns c =
    c.loop-class.invariant
    ∙ all_mapped class_ref_view has_members c.args.classes.now c.loop-class.class-index (omega arith)
