-- Which trees have a spelling: tokens in four bytes, literals up to the greatest, names, and at
-- most so many levels.
use Rattle.std.specs.Prelude.{ℕ, zero, suc, ◌<◌, ◌≤◌, ◌^◌, length, IfSome}
use Rattle.std.specs.List.{AllByRecursion}
use Rattle.mj_tree.specs.declared.tree.Ty.{Ty}
use Rattle.mj_tree.specs.declared.tree.Ty.TheVariants.{Int, Boolean, IntArray, Class}
use Rattle.mj_tree.specs.declared.tree.Field.{Field}
use Rattle.mj_tree.specs.declared.tree.Variable.{Variable}
use Rattle.mj_tree.specs.Trees.{Expression, Expressions, none, more, Statement, Statements, done, next, Method, Main, File}
use Rattle.mj_tree.specs.Trees as trees
use Rattle.mj_tree.specs.Limits.{most_levels}
use Rattle.mj_lexer.specs.Bytes.{greatest_literal}
use Rattle.byte_readers.specs.Names.{IsName}
use Rattle.tree_spelling.specs.Spelling.{count_exps, count_stmts}

abbrev pub TyFits : Ty → Type 0
TyFits Int = Unit {0}
TyFits Boolean = Unit {0}
TyFits IntArray = Unit {0}
TyFits (Class class) = IsName class

abbrev pub IsMark : ℕ → Type 0
IsMark mark = mark < 2 ^ 32

abbrev pub FieldFits : Field → Type 0
FieldFits f = IsName f.name × TyFits f.ty

abbrev pub VariableFits : Variable → Type 0
VariableFits v = IsName v.name × (TyFits v.ty × IsMark v.mark)

abbrev mutual
  -- with at most this many levels
  pub ExpFits : ℕ → Expression → Type 0
  ExpFits zero e = ⊥
  ExpFits (suc room) (trees.Binary operator mark left right) =
      IsMark mark × (ExpFits room left × ExpFits room right)
  ExpFits (suc room) (trees.Index mark array index) =
      IsMark mark × (ExpFits room array × ExpFits room index)
  ExpFits (suc room) (trees.Length mark array) = IsMark mark × ExpFits room array
  ExpFits (suc room) (trees.Call mark receiver method arguments) =
      IsMark mark
      × (ExpFits room receiver
      × (IsName method × ((count_exps arguments < 2 ^ 64) × ExpsFit room arguments)))
  ExpFits (suc room) (trees.Literal mark value) = IsMark mark × (value ≤ greatest_literal)
  ExpFits (suc room) (trees.Boolean mark value) = IsMark mark
  ExpFits (suc room) (trees.Named mark n) = IsMark mark × IsName n
  ExpFits (suc room) (trees.This mark) = IsMark mark
  ExpFits (suc room) (trees.NewArray mark length) = IsMark mark × ExpFits room length
  ExpFits (suc room) (trees.NewObject mark class) = IsMark mark × IsName class
  ExpFits (suc room) (trees.Not mark operand) = IsMark mark × ExpFits room operand
  ExpFits (suc room) (trees.Parenthesized mark inner) = IsMark mark × ExpFits room inner

  pub ExpsFit : ℕ → Expressions → Type 0
  ExpsFit room none = Unit {0}
  ExpsFit room (more e es) = ExpFits room e × ExpsFit room es

abbrev mutual
  -- with at most this many levels
  pub StmtFits : ℕ → Statement → Type 0
  StmtFits zero s = ⊥
  StmtFits (suc room) (trees.Block mark body) =
      IsMark mark × ((count_stmts body < 2 ^ 64) × StmtsFit room body)
  StmtFits (suc room) (trees.If mark condition then_branch else_branch) =
      IsMark mark
      × (ExpFits room condition × (StmtFits room then_branch × StmtFits room else_branch))
  StmtFits (suc room) (trees.While mark condition body) =
      IsMark mark × (ExpFits room condition × StmtFits room body)
  StmtFits (suc room) (trees.Print mark value) = IsMark mark × ExpFits room value
  StmtFits (suc room) (trees.Assign mark n name_mark value) =
      IsMark mark × (IsName n × (IsMark name_mark × ExpFits room value))
  StmtFits (suc room) (trees.Store mark n name_mark index value) =
      IsMark mark × (IsName n × (IsMark name_mark × (ExpFits room index × ExpFits room value)))

  pub StmtsFit : ℕ → Statements → Type 0
  StmtsFit room done = Unit {0}
  StmtsFit room (next s ss) = StmtFits room s × StmtsFit room ss

-- a statement of a body and a returned expression have level 1
unfoldable pub TopStmtFits : Statement → Type 0
TopStmtFits s = StmtFits most_levels s

unfoldable pub TopStmtsFit : Statements → Type 0
TopStmtsFit ss = StmtsFit most_levels ss

unfoldable pub TopExpFits : Expression → Type 0
TopExpFits e = ExpFits most_levels e

pub record MethodFits (m : Method) : Type 0 where
  pub name : IsName m.name
  pub returns : TyFits m.returns
  pub few_formals : length m.formals < 2 ^ 64
  pub formals : AllByRecursion VariableFits m.formals
  pub few_locals : length m.locals < 2 ^ 64
  pub locals : AllByRecursion VariableFits m.locals
  pub few_statements : count_stmts m.body < 2 ^ 64
  pub body : TopStmtsFit m.body
  pub returned : TopExpFits m.returned
  pub return_mark : IsMark m.return_mark

pub record MainFits (m : Main) : Type 0 where
  pub name : IsName m.name
  pub statement : TopStmtFits m.statement

pub record ClassFits (c : trees.Class) : Type 0 where
  pub name : IsName c.name
  pub superclass : IfSome c.superclass IsName
  pub few_fields : length c.fields < 2 ^ 64
  pub fields : AllByRecursion FieldFits c.fields
  pub few_methods : length c.methods < 2 ^ 64
  pub methods : AllByRecursion MethodFits c.methods

pub record FileFits (f : File) : Type 0 where
  pub main : IfSome f.main MainFits
  pub few : length f.classes < 2 ^ 64
  pub classes : AllByRecursion ClassFits f.classes
