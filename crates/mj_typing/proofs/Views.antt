-- Trees as contracts see them, layer by layer.
use Rattle.std.proofs.Common.{◌≡◌, ℕ, List, sym, ap, ◌∙◌}
use Rattle.std.specs.Global.{Vec, Box}
use Rattle.mj_tree.specs.Trees.{Expression, Statement}
use Rattle.mj_tree.specs.Trees as trees
use Rattle.mj_tree.specs.Views.{exp_view, stmt_view, stmts_view, stmt_layer}
use Rattle.mj_tree.specs.declared.tree.Exp.{Exp}
use Rattle.mj_tree.specs.declared.tree.Stmt.{Stmt, fold-roll-Stmt}
use Rattle.mj_tree.specs.declared.tree.Stmt.TheVariants as stmt
use Rattle.mj_tree.specs.declared.tree.Stmt.TheOpen as stmt_layers

pub stmt_view-Block : (mark : ℕ) (body : Vec Stmt) → stmt_view (stmt.Block mark body) ≡ trees.Block mark (stmts_view body.items)
stmt_view-Block mark body = ap stmt_view (sym (stmt.rolls-Block mark body)) ∙ fold-roll-Stmt Statement stmt_layer (stmt_layers.Block mark body)

pub stmt_view-If : (mark : ℕ) (condition : Exp) (then_branch else_branch : Box Stmt) → stmt_view (stmt.If mark condition then_branch else_branch) ≡ trees.If mark (exp_view condition) (stmt_view then_branch.value) (stmt_view else_branch.value)
stmt_view-If mark condition then_branch else_branch = ap stmt_view (sym (stmt.rolls-If mark condition then_branch else_branch)) ∙ fold-roll-Stmt Statement stmt_layer (stmt_layers.If mark condition then_branch else_branch)

pub stmt_view-While : (mark : ℕ) (condition : Exp) (body : Box Stmt) → stmt_view (stmt.While mark condition body) ≡ trees.While mark (exp_view condition) (stmt_view body.value)
stmt_view-While mark condition body = ap stmt_view (sym (stmt.rolls-While mark condition body)) ∙ fold-roll-Stmt Statement stmt_layer (stmt_layers.While mark condition body)

pub stmt_view-Assign : (mark : ℕ) (name : List ℕ) (name_mark : ℕ) (value : Exp) → stmt_view (stmt.Assign mark name name_mark value) ≡ trees.Assign mark name name_mark (exp_view value)
stmt_view-Assign mark name name_mark value = ap stmt_view (sym (stmt.rolls-Assign mark name name_mark value)) ∙ fold-roll-Stmt Statement stmt_layer (stmt_layers.Assign mark name name_mark value)

pub stmt_view-Store : (mark : ℕ) (name : List ℕ) (name_mark : ℕ) (index value : Exp) → stmt_view (stmt.Store mark name name_mark index value) ≡ trees.Store mark name name_mark (exp_view index) (exp_view value)
stmt_view-Store mark name name_mark index value = ap stmt_view (sym (stmt.rolls-Store mark name name_mark index value)) ∙ fold-roll-Stmt Statement stmt_layer (stmt_layers.Store mark name name_mark index value)
