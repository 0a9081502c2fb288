-- What contracts see of the trees that the code has.
use Rattle.std.specs.Prelude.{List, [], ◌∷◌, map, option_map}
use Rattle.mj_tree.specs.Trees.{Expression, Expressions, none, more, Statement, Statements, done, next, Method, Main, Class, File}
use Rattle.mj_tree.specs.Trees as trees
use Rattle.mj_tree.specs.declared.tree.Exp.{Exp, fold-Exp}
use Rattle.mj_tree.specs.declared.tree.Exp.TheOpen as exp
use Rattle.mj_tree.specs.declared.tree.Stmt.{Stmt, fold-Stmt}
use Rattle.mj_tree.specs.declared.tree.Stmt.TheOpen as stmt
use Rattle.mj_tree.specs.declared.tree.MethodTree.{MethodTree}
use Rattle.mj_tree.specs.declared.tree.MainTree.{MainTree}
use Rattle.mj_tree.specs.declared.tree.ClassTree.{ClassTree}
use Rattle.mj_tree.specs.declared.tree.FileTree.{FileTree}

abbrev pub expressions_of : List Expression → Expressions
expressions_of [] = none
expressions_of (e ∷ es) = more e (expressions_of es)

abbrev pub exp_layer : exp.Exp-F Expression → Expression
exp_layer (exp.Binary operator mark left right) = trees.Binary operator mark left.value right.value
exp_layer (exp.Index mark array index) = trees.Index mark array.value index.value
exp_layer (exp.Length mark array) = trees.Length mark array.value
exp_layer (exp.Call mark receiver method arguments) =
    trees.Call mark receiver.value method (expressions_of arguments.items)
exp_layer (exp.Literal mark value) = trees.Literal mark value
exp_layer (exp.Boolean mark value) = trees.Boolean mark value
exp_layer (exp.Variable mark name) = trees.Named mark name
exp_layer (exp.This mark) = trees.This mark
exp_layer (exp.NewArray mark length) = trees.NewArray mark length.value
exp_layer (exp.NewObject mark class) = trees.NewObject mark class
exp_layer (exp.Not mark operand) = trees.Not mark operand.value
exp_layer (exp.Parenthesized mark inner) = trees.Parenthesized mark inner.value

abbrev pub exp_view : Exp → Expression
exp_view e = fold-Exp Expression exp_layer e

abbrev pub exps_view : List Exp → Expressions
exps_view es = expressions_of (map exp_view es)

abbrev pub statements_of : List Statement → Statements
statements_of [] = done
statements_of (s ∷ ss) = next s (statements_of ss)

abbrev pub stmt_layer : stmt.Stmt-F Statement → Statement
stmt_layer (stmt.Block mark body) = trees.Block mark (statements_of body.items)
stmt_layer (stmt.If mark condition then_branch else_branch) =
    trees.If mark (exp_view condition) then_branch.value else_branch.value
stmt_layer (stmt.While mark condition body) = trees.While mark (exp_view condition) body.value
stmt_layer (stmt.Print mark value) = trees.Print mark (exp_view value)
stmt_layer (stmt.Assign mark name name_mark value) =
    trees.Assign mark name name_mark (exp_view value)
stmt_layer (stmt.Store mark name name_mark index value) =
    trees.Store mark name name_mark (exp_view index) (exp_view value)

abbrev pub stmt_view : Stmt → Statement
stmt_view s = fold-Stmt Statement stmt_layer s

abbrev pub stmts_view : List Stmt → Statements
stmts_view ss = statements_of (map stmt_view ss)

abbrev pub method_view : MethodTree → Method
method_view m = record {
  name = m.name;
  returns = m.returns;
  formals = m.formals.items;
  locals = m.locals.items;
  body = stmts_view m.body.items;
  returned = exp_view m.returned;
  return_mark = m.return_mark;
}

abbrev pub main_view : MainTree → Main
main_view m = record { name = m.name; statement = stmt_view m.statement }

abbrev pub class_view : ClassTree → Class
class_view c = record {
  name = c.name;
  superclass = c.superclass;
  fields = c.fields.items;
  methods = map method_view c.methods.items;
}

abbrev pub file_view : FileTree → File
file_view f = record {
  main = option_map main_view f.main;
  classes = map class_view f.classes.items;
}
