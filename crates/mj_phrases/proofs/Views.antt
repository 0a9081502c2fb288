-- Expressions as contracts see them, layer by layer.
use Rattle.std.proofs.Common.{◌≡◌, ℕ, List, sym, ap, ◌∙◌}
use Rattle.std.specs.Global.{Vec, Box}
use Rattle.mj_tree.specs.Trees.{Expression, Statement}
use Rattle.mj_tree.specs.Trees as trees
use Rattle.mj_tree.specs.Views.{exp_view, exps_view, exp_layer}
use Rattle.mj_tree.specs.declared.tree.Operator.{Operator}
use Rattle.mj_tree.specs.declared.tree.Exp.{Exp, fold-roll-Exp}
use Rattle.mj_tree.specs.declared.tree.Exp.TheVariants as exp
use Rattle.mj_tree.specs.declared.tree.Exp.TheOpen as layer

pub exp_view-Not : (mark : ℕ) (operand : Box Exp) → exp_view (exp.Not mark operand) ≡ trees.Not mark (exp_view operand.value)
exp_view-Not mark operand = ap exp_view (sym (exp.rolls-Not mark operand)) ∙ fold-roll-Exp Expression exp_layer (layer.Not mark operand)

pub exp_view-Length : (mark : ℕ) (array : Box Exp) → exp_view (exp.Length mark array) ≡ trees.Length mark (exp_view array.value)
exp_view-Length mark array = ap exp_view (sym (exp.rolls-Length mark array)) ∙ fold-roll-Exp Expression exp_layer (layer.Length mark array)

pub exp_view-NewArray : (mark : ℕ) (len : Box Exp) → exp_view (exp.NewArray mark len) ≡ trees.NewArray mark (exp_view len.value)
exp_view-NewArray mark len = ap exp_view (sym (exp.rolls-NewArray mark len)) ∙ fold-roll-Exp Expression exp_layer (layer.NewArray mark len)

pub exp_view-Binary : (operator : Operator) (mark : ℕ) (left right : Box Exp) → exp_view (exp.Binary operator mark left right) ≡ trees.Binary operator mark (exp_view left.value) (exp_view right.value)
exp_view-Binary operator mark left right = ap exp_view (sym (exp.rolls-Binary operator mark left right)) ∙ fold-roll-Exp Expression exp_layer (layer.Binary operator mark left right)

pub exp_view-Index : (mark : ℕ) (array at : Box Exp) → exp_view (exp.Index mark array at) ≡ trees.Index mark (exp_view array.value) (exp_view at.value)
exp_view-Index mark array at = ap exp_view (sym (exp.rolls-Index mark array at)) ∙ fold-roll-Exp Expression exp_layer (layer.Index mark array at)

pub exp_view-Call : (mark : ℕ) (receiver : Box Exp) (method : List ℕ) (arguments : Vec Exp) → exp_view (exp.Call mark receiver method arguments) ≡ trees.Call mark (exp_view receiver.value) method (exps_view arguments.items)
exp_view-Call mark receiver method arguments = ap exp_view (sym (exp.rolls-Call mark receiver method arguments)) ∙ fold-roll-Exp Expression exp_layer (layer.Call mark receiver method arguments)
