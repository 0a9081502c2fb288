-- The one spelling of each tree.
use Rattle.std.specs.Prelude.{ℕ, suc, List, [], ◌∷◌, ◌++◌}
use Rattle.mj_tree.specs.declared.tree.Ty.{Ty}
use Rattle.mj_tree.specs.declared.tree.Ty.TheVariants.{Int, Boolean, IntArray, Class}
use Rattle.mj_tree.specs.declared.tree.Field.{Field}
use Rattle.mj_tree.specs.declared.tree.Variable.{Variable}
use Rattle.mj_tree.specs.Trees.{Expression, Expressions, none, more, Statement, Statements, done, next, Method, Main, File}
use Rattle.mj_tree.specs.Trees as trees
use Rattle.byte_readers.specs.Spelling.{four, eight, name, option, list}
use Rattle.tree_spelling.specs.Tags.{operator_byte, boolean_byte}

-- a declared type
abbrev pub ty : Ty → List ℕ
ty Int = 0x00 ∷ []
ty Boolean = 0x01 ∷ []
ty IntArray = 0x02 ∷ []
ty (Class class) = 0x03 ∷ name class

-- a field: its name and its type
abbrev pub field : Field → List ℕ
field f = name f.name ++ ty f.ty

-- a formal or a local: its name, its type, and the first token of its type
abbrev pub variable : Variable → List ℕ
variable v = name v.name ++ (ty v.ty ++ four v.mark)

abbrev pub count_exps : Expressions → ℕ
count_exps none = 0
count_exps (more e es) = suc (count_exps es)

abbrev pub count_stmts : Statements → ℕ
count_stmts done = 0
count_stmts (next s ss) = suc (count_stmts ss)

-- a phrase: its tag, its marking token, and what is behind them
abbrev pub node : ℕ → ℕ → List ℕ → List ℕ
node tag mark parts = tag ∷ (four mark ++ parts)

abbrev mutual
  pub exp : Expression → List ℕ
  exp (trees.Binary operator mark left right) =
      node (operator_byte operator) mark (exp left ++ exp right)
  exp (trees.Index mark array index) = node 0x05 mark (exp array ++ exp index)
  exp (trees.Length mark array) = node 0x06 mark (exp array)
  exp (trees.Call mark receiver method arguments) =
      node 0x07 mark
      (exp receiver ++ (name method ++ (eight (count_exps arguments) ++ exps arguments)))
  exp (trees.Literal mark value) = node 0x08 mark (four value)
  exp (trees.Boolean mark value) = node (boolean_byte value) mark []
  exp (trees.Named mark n) = node 0x0b mark (name n)
  exp (trees.This mark) = node 0x0c mark []
  exp (trees.NewArray mark length) = node 0x0d mark (exp length)
  exp (trees.NewObject mark class) = node 0x0e mark (name class)
  exp (trees.Not mark operand) = node 0x0f mark (exp operand)
  exp (trees.Parenthesized mark inner) = node 0x10 mark (exp inner)

  pub exps : Expressions → List ℕ
  exps none = []
  exps (more e es) = exp e ++ exps es

abbrev mutual
  pub stmt : Statement → List ℕ
  stmt (trees.Block mark body) = node 0x00 mark (eight (count_stmts body) ++ stmts body)
  stmt (trees.If mark condition then_branch else_branch) =
      node 0x01 mark (exp condition ++ (stmt then_branch ++ stmt else_branch))
  stmt (trees.While mark condition body) = node 0x02 mark (exp condition ++ stmt body)
  stmt (trees.Print mark value) = node 0x03 mark (exp value)
  stmt (trees.Assign mark n name_mark value) =
      node 0x04 mark (name n ++ (four name_mark ++ exp value))
  stmt (trees.Store mark n name_mark index value) =
      node 0x05 mark (name n ++ (four name_mark ++ (exp index ++ exp value)))

  pub stmts : Statements → List ℕ
  stmts done = []
  stmts (next s ss) = stmt s ++ stmts ss

-- a method: its name, return type, formals, locals, statements, returned expression, and the token
-- `return`
unfoldable pub method : Method → List ℕ
method m =
    name m.name ++ (ty m.returns ++ (list variable m.formals ++ (list variable m.locals
    ++ ((eight (count_stmts m.body) ++ stmts m.body) ++ (exp m.returned ++ four m.return_mark)))))

-- a method of a class, behind the tag that distinguishes it from `main`
abbrev pub tagged_method : Method → List ℕ
tagged_method m = 0x01 ∷ method m

-- a main class: its name and its statement
abbrev pub main : Main → List ℕ
main m = name m.name ++ stmt m.statement

-- a class: its name, superclass, fields and methods
unfoldable pub class : trees.Class → List ℕ
class c =
    name c.name
    ++ (option name c.superclass ++ (list field c.fields ++ list tagged_method c.methods))

-- a file: its main class, if it has one, and its classes
unfoldable pub file : File → List ℕ
file f = option main f.main ++ list class f.classes
