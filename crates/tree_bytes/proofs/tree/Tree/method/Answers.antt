use Rattle.std.proofs.Common.{◌≡◌, Some, None, sym, subst, arith}
use Rattle.mj_tree.specs.Trees.{File}
use Rattle.tree_bytes.proofs.Indexes.{method_of, no_class, no_method, method_below, method_found}
use Rattle.tree_bytes.proofs.tree.Tree.method.Goals as goal

pub returns-in_err-class_at : goal.returns-in_err-class_at
returns-in_err-class_at c =
    rw c.from_residual.ensures
    (subst (λ (f : File). None ≡ method_of f c.args.class.now c.args.method.now) c.self.view_is
    (sym (no_class c.self.inside.root c.self.inside.index c.self.invariant.1 c.args.class.now c.args.method.now (sym c.in_err-class_at.ensures))))

pub returns-in_err-method_at : goal.returns-in_err-method_at
returns-in_err-method_at c =
    rw c.from_residual-in_err-method_at.ensures
    (subst (λ (f : File). None ≡ method_of f c.args.class.now c.args.method.now) c.self.view_is
    (sym (no_method c.self.inside.root c.self.inside.index c.self.invariant.1 c.args.class.now c.in_ok-class_at.class_at (sym c.in_ok-class_at.ensures) c.args.method.now (sym c.in_err-method_at.ensures))))

pub index-requires-2 : goal.index-requires-2
index-requires-2 c =
    let below = method_below c.self.inside.root c.self.inside.index c.self.invariant.1 c.args.class.now c.in_ok-class_at.class_at (sym c.in_ok-class_at.ensures) c.index.result.now c.index.ensures c.args.method.now c.in_ok-method_at.method_at (sym c.in_ok-method_at.ensures) in
    omega (arith, below, c.index.result.now.methods.ok.0)

pub returns : goal.returns
returns c =
    subst (λ (f : File). Some c.index-2.result.now ≡ method_of f c.args.class.now c.args.method.now) c.self.view_is
    (sym (method_found c.self.inside.root c.self.inside.index c.self.invariant.1 c.args.class.now c.in_ok-class_at.class_at (sym c.in_ok-class_at.ensures) c.index.result.now c.index.ensures c.args.method.now c.in_ok-method_at.method_at (sym c.in_ok-method_at.ensures) c.index-2.result.now c.index-2.ensures))
