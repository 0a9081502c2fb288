-- Every mark of a tree is less than a number.
use Rattle.std.specs.Prelude.{ℕ, ◌+◌, ◌<◌, All, Option, Some, None}
use Rattle.mj_tree.specs.declared.tree.Variable.{Variable}
use Rattle.mj_tree.specs.Trees.{Expression, Expressions, Binary, Index, Length, Call, Literal, Boolean, Named, This, NewArray, NewObject, Not, Parenthesized, none, more, Statement, Statements, Block, If, While, Print, Assign, Store, done, next, Method, Main, Class, File}
use Rattle.mj_parser.specs.Declarations.{type_size}

abbrev mutual
  pub ExpMarksBelow : ℕ → Expression → Type 0
  ExpMarksBelow n (Binary operator mark left right) =
      (mark < n) × ExpMarksBelow n left × ExpMarksBelow n right
  ExpMarksBelow n (Index mark array index) =
      (mark < n) × ExpMarksBelow n array × ExpMarksBelow n index
  ExpMarksBelow n (Length mark array) = (mark < n) × ExpMarksBelow n array
  ExpMarksBelow n (Call mark receiver method arguments) =
      (mark < n) × ExpMarksBelow n receiver × ExpsMarksBelow n arguments
  ExpMarksBelow n (Literal mark value) = mark < n
  ExpMarksBelow n (Boolean mark value) = mark < n
  ExpMarksBelow n (Named mark name) = mark < n
  ExpMarksBelow n (This mark) = mark < n
  ExpMarksBelow n (NewArray mark len) = (mark < n) × ExpMarksBelow n len
  ExpMarksBelow n (NewObject mark class) = mark < n
  ExpMarksBelow n (Not mark operand) = (mark < n) × ExpMarksBelow n operand
  ExpMarksBelow n (Parenthesized mark inner) = (mark < n) × ExpMarksBelow n inner

  pub ExpsMarksBelow : ℕ → Expressions → Type 0
  ExpsMarksBelow n none = Unit {0}
  ExpsMarksBelow n (more first others) = ExpMarksBelow n first × ExpsMarksBelow n others

abbrev mutual
  pub StmtMarksBelow : ℕ → Statement → Type 0
  StmtMarksBelow n (Block mark body) = (mark < n) × StmtsMarksBelow n body
  StmtMarksBelow n (If mark condition then_branch else_branch) =
      (mark < n) × ExpMarksBelow n condition × StmtMarksBelow n then_branch
      × StmtMarksBelow n else_branch
  StmtMarksBelow n (While mark condition body) =
      (mark < n) × ExpMarksBelow n condition × StmtMarksBelow n body
  StmtMarksBelow n (Print mark value) = (mark < n) × ExpMarksBelow n value
  StmtMarksBelow n (Assign mark name name_mark value) =
      (mark < n) × (name_mark < n) × ExpMarksBelow n value
  StmtMarksBelow n (Store mark name name_mark index value) =
      (mark < n) × (name_mark < n) × ExpMarksBelow n index × ExpMarksBelow n value

  pub StmtsMarksBelow : ℕ → Statements → Type 0
  StmtsMarksBelow n done = Unit {0}
  StmtsMarksBelow n (next first others) = StmtMarksBelow n first × StmtsMarksBelow n others

-- the mark, and the place of the name behind the type
abbrev pub VariableBelow : ℕ → Variable → Type 0
VariableBelow n v = v.mark + type_size v.ty < n

pub record MethodMarksBelow (n : ℕ) (m : Method) : Type 0 where
  pub formals : All (VariableBelow n) m.formals
  pub locals : All (VariableBelow n) m.locals
  pub body : StmtsMarksBelow n m.body
  pub returned : ExpMarksBelow n m.returned
  pub return_mark : m.return_mark < n

abbrev pub ClassMarksBelow : ℕ → Class → Type 0
ClassMarksBelow n c = All (MethodMarksBelow n) c.methods

abbrev pub MainMarksBelow : ℕ → Option Main → Type 0
MainMarksBelow n None = Unit {0}
MainMarksBelow n (Some m) = StmtMarksBelow n m.statement

pub record FileMarksBelow (n : ℕ) (f : File) : Type 0 where
  pub main : MainMarksBelow n f.main
  pub classes : All (ClassMarksBelow n) f.classes
