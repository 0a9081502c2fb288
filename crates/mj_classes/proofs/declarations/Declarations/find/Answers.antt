use Rattle.std.proofs.Common.{◌∙◌, sym, arith}
use Rattle.mj_classes.proofs.Index.{decl_none, decl_some, place_below}
use Rattle.mj_classes.proofs.declarations.Declarations.find.Goals as goal

pub returns-in_err-at : goal.returns-in_err-at
returns-in_err-at c =
    rw c.from_residual.ensures (sym (decl_none c.args.self.now.classes.items c.args.name.now (sym (c.args.self.now.indexed c.args.name.now) ∙ sym c.in_err-at.ensures.value)))

pub index-requires : goal.index-requires
index-requires c =
    omega (arith, place_below c.args.self.now.classes.items c.args.name.now _ (sym (c.args.self.now.indexed c.args.name.now) ∙ sym c.in_ok-at.ensures.value), c.args.self.now.classes.ok.0)

pub returns : goal.returns
returns c = sym (decl_some c.args.self.now.classes.items c.args.name.now _ _ (sym (c.args.self.now.indexed c.args.name.now) ∙ sym c.in_ok-at.ensures.value) c.index.ensures)
