-- Trees, apart from where they lie in memory. Each phrase has its mark, the number of a token.
use Rattle.std.specs.Prelude.{ℕ, Bool, List, Option}
use Rattle.mj_tree.specs.declared.tree.Operator.{Operator}
use Rattle.mj_tree.specs.declared.tree.Ty.{Ty}
use Rattle.mj_tree.specs.declared.tree.Field.{Field}
use Rattle.mj_tree.specs.declared.tree.Variable.{Variable}

abbrev pub Name : Type 0
Name = List ℕ

mutual
  pub data Expression : Type 0 where
    Binary : (operator : Operator) (mark : ℕ) (left right : Expression) → Expression
    Index : (mark : ℕ) (array index : Expression) → Expression
    Length : (mark : ℕ) (array : Expression) → Expression
    Call : (mark : ℕ) (receiver : Expression) (method : Name) (arguments : Expressions) → Expression
    Literal : (mark value : ℕ) → Expression
    Boolean : (mark : ℕ) (value : Bool) → Expression
    Named : (mark : ℕ) (name : Name) → Expression
    This : (mark : ℕ) → Expression
    NewArray : (mark : ℕ) (length : Expression) → Expression
    NewObject : (mark : ℕ) (class : Name) → Expression
    Not : (mark : ℕ) (operand : Expression) → Expression
    Parenthesized : (mark : ℕ) (inner : Expression) → Expression

  pub data Expressions : Type 0 where
    none : Expressions
    more : (first : Expression) (others : Expressions) → Expressions

mutual
  pub data Statement : Type 0 where
    Block : (mark : ℕ) (body : Statements) → Statement
    If : (mark : ℕ) (condition : Expression) (then_branch else_branch : Statement) → Statement
    While : (mark : ℕ) (condition : Expression) (body : Statement) → Statement
    Print : (mark : ℕ) (value : Expression) → Statement
    Assign : (mark : ℕ) (name : Name) (name_mark : ℕ) (value : Expression) → Statement
    Store : (mark : ℕ) (name : Name) (name_mark : ℕ) (index value : Expression) → Statement

  pub data Statements : Type 0 where
    done : Statements
    next : (first : Statement) (others : Statements) → Statements

pub record Method : Type 0 where
  pub name : Name
  pub returns : Ty
  pub formals : List Variable
  pub locals : List Variable
  pub body : Statements
  pub returned : Expression
  pub return_mark : ℕ

pub record Main : Type 0 where
  pub name : Name
  pub statement : Statement

pub record Class : Type 0 where
  pub name : Name
  pub superclass : Option Name
  pub fields : List Field
  pub methods : List Method

pub record File : Type 0 where
  pub main : Option Main
  pub classes : List Class
