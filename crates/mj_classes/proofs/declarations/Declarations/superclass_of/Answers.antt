use Rattle.std.proofs.Common.{◌∙◌, length, sym, ap, arith}
use Rattle.std.specs.Prelude.{slice_get, option_and_then}
use Rattle.std.proofs.lemmas.List.{length-map}
use Rattle.mj_members.specs.Declarations.{ClassDecl}
use Rattle.mj_classes.specs.Declarations.{place}
use Rattle.mj_members.specs.Classes.{classes_view}
use Rattle.mj_tree.proofs.Positions.{read_at}
use Rattle.mj_classes.proofs.declarations.Declarations.superclass_of.Goals as goal

pub index-requires : goal.index-requires
index-requires c =
    let cs = classes_view c.args.self.now.classes.items in
    omega (arith, c.requires, ap length c.args.self.now.linked, length-map cs (λ (k : ClassDecl). option_and_then (place cs) k.superclass), c.args.self.now.superclasses.ok.0)

pub returns : goal.returns
returns c =
    let cs = classes_view c.args.self.now.classes.items in
    ap (λ xs. slice_get xs c.args.at) (sym c.args.self.now.linked)
    ∙ read_at c.args.self.now.superclasses.items c.args.at _ (omega (arith, c.requires, ap length c.args.self.now.linked, length-map cs (λ (k : ClassDecl). option_and_then (place cs) k.superclass))) c.index.ensures
