-- How a call is seen.
use Rattle.std.proofs.Common.{◌≡◌, ℕ, List, sym, ap, ◌∙◌}
use Rattle.std.specs.Global.{Vec, Box}
use Rattle.mj_tree.specs.Trees as trees
use Rattle.mj_tree.specs.Trees.{Expression}
use Rattle.mj_tree.specs.declared.tree.Exp.{Exp}
use Rattle.mj_tree.specs.declared.tree.Exp as exps1
use Rattle.mj_tree.specs.declared.tree.Exp.TheVariants.{rolls-Call}
use Rattle.mj_tree.specs.declared.tree.Exp.TheFolds.{fold-roll-Exp}
use Rattle.mj_tree.specs.Views.{exp_layer, exp_view, exps_view}

view_call : (mark : ℕ) (receiver : Box Exp) (method : List ℕ) (arguments : Vec Exp) → exp_view (exps1.Call mark receiver method arguments) ≡ trees.Call mark (exp_view receiver.value) method (exps_view arguments.items)
view_call mark receiver method arguments = ap exp_view (sym (rolls-Call mark receiver method arguments)) ∙ fold-roll-Exp Expression exp_layer _

pub seen_call : (e : Exp) (mark : ℕ) (receiver : Box Exp) (method : List ℕ) (arguments : Vec Exp) (inner : Exp) (items : List Exp) → e ≡ exps1.Call mark receiver method arguments → inner ≡ receiver.value → items ≡ arguments.items
    → exp_view e ≡ trees.Call mark (exp_view inner) method (exps_view items)
seen_call e mark receiver method arguments inner items is ei es = rw (is, ei, es) (view_call mark receiver method arguments)
