use Rattle.std.proofs.Common.{arith}
use Rattle.std.proofs.lemmas.List.{length-map}
use Rattle.mj_members.specs.Classes.{class_ref_view}
use Rattle.mj_tree.proofs.Positions.{view_at}
use Rattle.mj_classes.proofs.declarations.Declarations.class_at.Goals as goal

pub index-requires : goal.index-requires
index-requires c = omega (arith, c.requires, length-map c.args.self.now.classes.items class_ref_view, c.args.self.now.classes.ok.0)

pub returns : goal.returns
returns c = view_at class_ref_view c.args.self.now.classes.items c.args.at _ c.requires c.index.ensures
