use Rattle.std.proofs.Common.{◌≡◌, Some, None, sym, subst}
use Rattle.mj_tree.specs.Trees.{File}
use Rattle.tree_bytes.specs.Stored.{stored_class}
use Rattle.tree_bytes.specs.NamedBodies.{first_class}
use Rattle.tree_bytes.proofs.Indexes.{class_absent, class_found}
use Rattle.tree_bytes.proofs.tree.Tree.class.Goals as goal

pub returns-in_err-at : goal.returns-in_err-at
returns-in_err-at c =
    rw c.from_residual.ensures
    (subst (λ (f : File). None ≡ first_class c.args.name.now f.classes) c.self.view_is
    (sym (class_absent c.self.inside.root c.self.inside.index c.self.invariant.1 c.args.name.now (sym c.in_err-at.ensures))))

pub returns : goal.returns
returns c =
    subst (λ (f : File). Some (stored_class c.index.result.now) ≡ first_class c.args.name.now f.classes) c.self.view_is
    (sym (class_found c.self.inside.root c.self.inside.index c.self.invariant.1 c.args.name.now c.in_ok-at.at (sym c.in_ok-at.ensures) c.index.result.now c.index.ensures))
