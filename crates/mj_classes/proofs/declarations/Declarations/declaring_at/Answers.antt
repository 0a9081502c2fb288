use Rattle.std.proofs.Common.{Bool, Some, None, length, ap, subst, arith}
use Rattle.std.specs.Prelude.{if◌then◌else◌}
use Rattle.std.proofs.lemmas.List.{length-map}
use Rattle.mj_members.specs.Declarations.{has_members}
use Rattle.mj_members.specs.Classes.{classes_view}
use Rattle.mj_classes.specs.Walks.{IsNearestAt}
use Rattle.mj_classes.proofs.Turning.{nearest_inside, nearest_flagged}
use Rattle.mj_classes.proofs.declarations.Declarations.declaring_at.Goals as goal

pub index-requires : goal.index-requires
index-requires c =
    let cs = classes_view c.args.self.now.classes.items in
    let inside = nearest_inside cs c.args.self.now.nearest.items c.args.at c.index-place.result.now c.args.self.now.near c.requires c.index-place.ensures in
    omega (arith, inside, ap length c.args.self.now.flagged, length-map cs has_members, c.args.self.now.declares.ok.0)

pub returns-then-index : goal.returns-then-index
returns-then-index c =
    let cs = classes_view c.args.self.now.classes.items in
    let told = nearest_flagged cs c.args.self.now.nearest.items c.args.self.now.declares.items c.args.at c.index-place.result.now c.index.result.now c.args.self.now.near c.args.self.now.flagged c.requires c.index-place.ensures c.index.ensures in
    subst (λ (b : Bool). IsNearestAt cs c.args.at (if b then Some c.index-place.result.now else None)) c.if-index.true told

pub returns-else-index : goal.returns-else-index
returns-else-index c =
    let cs = classes_view c.args.self.now.classes.items in
    let told = nearest_flagged cs c.args.self.now.nearest.items c.args.self.now.declares.items c.args.at c.index-place.result.now c.index.result.now c.args.self.now.near c.args.self.now.flagged c.requires c.index-place.ensures c.index.ensures in
    subst (λ (b : Bool). IsNearestAt cs c.args.at (if b then Some c.index-place.result.now else None)) c.if-index.false told
