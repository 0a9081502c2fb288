-- The grammar of declarations and files, one case a production. A method's tokens are numbered from
-- its `public`.
use Rattle.std.specs.Prelude.{◌≡◌, ℕ, ◌+◌, ◌≤◌, max, Bool, true, ◌&&◌, is_some, List, [], ◌∷◌, length, drop, Option, Some, None, codes}
use Rattle.mj_lexer.specs.declared.token.Token.{Token}
use Rattle.mj_lexer.specs.declared.token.Terminal.TheVariants as terminals
use Rattle.mj_tree.specs.declared.tree.Ty.{Ty}
use Rattle.mj_tree.specs.declared.tree.Ty.TheVariants as types
use Rattle.mj_tree.specs.declared.tree.Field.{Field}
use Rattle.mj_tree.specs.declared.tree.Variable.{Variable}
use Rattle.mj_tree.specs.Limits.{most_levels}
use Rattle.mj_parser.specs.Rows.{row_size, row_height, InRow}
use Rattle.mj_expressions.specs.Tokens.{has, Stands, says, name_at, first_wrong}
use Rattle.mj_tree.specs.Trees.{Name, Method, Main, Class, File}
use Rattle.mj_expressions.specs.Expressions.{any_tier, size, height, IsExp}
use Rattle.mj_parser.specs.Statements.{stmt_size, stmts_size, stmt_height, stmts_height, IsStmt, AreStmts}

-- ---- types and variables

abbrev pub type_size : Ty → ℕ
type_size types.Int = 1
type_size types.Boolean = 1
type_size types.IntArray = 3
type_size (types.Class name) = 1

abbrev pub IsType : List Token → ℕ → Ty → Type 0
IsType ts i types.Int = Stands ts i terminals.Int
IsType ts i types.Boolean = Stands ts i terminals.Boolean
IsType ts i types.IntArray =
    Stands ts i terminals.Int × Stands ts (i + 1) terminals.LeftBracket
    × Stands ts (i + 2) terminals.RightBracket
IsType ts i (types.Class name) = name_at ts i ≡ Some name

-- a type and a name
abbrev pub IsVariableAt : List Token → ℕ → Variable → Type 0
IsVariableAt ts i v =
    (v.mark ≡ i) × IsType ts i v.ty × (name_at ts (i + type_size v.ty) ≡ Some v.name)

abbrev pub variable_size : Variable → ℕ
variable_size v = type_size v.ty + 1

-- formals, with a comma between each two
abbrev pub IsMoreFormal : List Token → ℕ → Variable → Type 0
IsMoreFormal ts i v = Stands ts i terminals.Comma × IsVariableAt ts (i + 1) v

abbrev pub more_formal_size : Variable → ℕ
more_formal_size v = 1 + variable_size v

abbrev pub formals_size : List Variable → ℕ
formals_size [] = 0
formals_size (v ∷ vs) = variable_size v + row_size more_formal_size vs

abbrev pub AreFormals : List Token → ℕ → List Variable → Type 0
AreFormals ts i [] = Unit {0}
AreFormals ts i (v ∷ vs) =
    IsVariableAt ts i v × InRow (IsMoreFormal ts) more_formal_size (i + variable_size v) vs

-- a local
abbrev pub IsLocalAt : List Token → ℕ → Variable → Type 0
IsLocalAt ts i v = IsVariableAt ts i v × Stands ts (i + variable_size v) terminals.Semicolon

abbrev pub local_size : Variable → ℕ
local_size v = variable_size v + 1

-- ---- methods

-- the places within a method
abbrev pub formals_place : Method → ℕ
formals_place m = 1 + type_size m.returns + 2

abbrev pub locals_place : Method → ℕ
locals_place m = formals_place m + formals_size m.formals + 2

abbrev pub body_place : Method → ℕ
body_place m = locals_place m + row_size local_size m.locals

abbrev pub return_place : Method → ℕ
return_place m = body_place m + stmts_size m.body

abbrev pub method_size : Method → ℕ
method_size m = return_place m + 1 + size m.returned + 2

abbrev pub method_height : Method → ℕ
method_height m = max (stmts_height m.body) (height m.returned)

-- the tokens begin with those of the method
pub record IsMethod (ts : List Token) (m : Method) : Type 0 where
  pub public_word : Stands ts 0 terminals.Public
  pub returns : IsType ts 1 m.returns
  pub name : name_at ts (1 + type_size m.returns) ≡ Some m.name
  pub opening : Stands ts (1 + type_size m.returns + 1) terminals.LeftParenthesis
  pub formals : AreFormals ts (formals_place m) m.formals
  pub closing : Stands ts (formals_place m + formals_size m.formals) terminals.RightParenthesis
  pub brace : Stands ts (formals_place m + formals_size m.formals + 1) terminals.LeftBrace
  pub locals : InRow (IsLocalAt ts) local_size (locals_place m) m.locals
  pub body : AreStmts ts (body_place m) m.body
  pub return_word : Stands ts (return_place m) terminals.Return
  pub return_mark : m.return_mark ≡ return_place m
  pub returned : IsExp ts any_tier (return_place m + 1) m.returned
  pub semicolon : Stands ts (return_place m + 1 + size m.returned) terminals.Semicolon
  pub end_brace : Stands ts (return_place m + 1 + size m.returned + 1) terminals.RightBrace

-- `public static void main (` stands at the front
abbrev pub main_head : List Token → Bool
main_head ts =
    has ts 0 terminals.Public && has ts 1 terminals.Static && has ts 2 terminals.Void
    && says ts 3 (codes "main") && has ts 4 terminals.LeftParenthesis

-- the first place where the head isn't as it has to be
abbrev pub main_head_fault : List Token → ℕ
main_head_fault ts =
    first_wrong 0 (has ts 0 terminals.Public ∷ has ts 1 terminals.Static ∷ has ts 2 terminals.Void
    ∷ says ts 3 (codes "main") ∷ has ts 4 terminals.LeftParenthesis ∷ [])

-- and then `String [ ] id ) {`
abbrev pub main_parameter : List Token → Bool
main_parameter ts =
    says ts 5 (codes "String") && has ts 6 terminals.LeftBracket && has ts 7 terminals.RightBracket
    && is_some (name_at ts 8) && has ts 9 terminals.RightParenthesis
    && has ts 10 terminals.LeftBrace

-- the first place where the parameter isn't as it has to be
abbrev pub main_parameter_fault : List Token → ℕ
main_parameter_fault ts =
    first_wrong 5 (says ts 5 (codes "String") ∷ has ts 6 terminals.LeftBracket
    ∷ has ts 7 terminals.RightBracket ∷ is_some (name_at ts 8)
    ∷ has ts 9 terminals.RightParenthesis ∷ has ts 10 terminals.LeftBrace ∷ [])

-- Of `class id {`, with which the main class begins, the first place where it isn't as it has to be.
abbrev pub main_opening_fault : List Token → ℕ
main_opening_fault ts =
    first_wrong 0 (has ts 0 terminals.Class ∷ is_some (name_at ts 1)
    ∷ has ts 2 terminals.LeftBrace ∷ [])

-- ---- classes

abbrev pub field_size : Field → ℕ
field_size f = type_size f.ty + 1 + 1

abbrev pub IsField : List Token → ℕ → Field → Type 0
IsField ts i f =
    IsType ts i f.ty × (name_at ts (i + type_size f.ty) ≡ Some f.name)
    × Stands ts (i + (type_size f.ty + 1)) terminals.Semicolon

-- a method that begins at a place
abbrev pub IsMethodAt : List Token → ℕ → Method → Type 0
IsMethodAt ts i m = IsMethod (drop i ts) m

-- `extends id`, or nothing
abbrev pub superclass_size : Option Name → ℕ
superclass_size None = 0
superclass_size (Some name) = 2

abbrev pub IsSuperclass : List Token → ℕ → Option Name → Type 0
IsSuperclass ts i None = Unit {0}
IsSuperclass ts i (Some name) = Stands ts i terminals.Extends × (name_at ts (i + 1) ≡ Some name)

-- how many tokens stand before the fields
abbrev pub head_size : Class → ℕ
head_size c = 2 + superclass_size c.superclass + 1

abbrev pub class_size : Class → ℕ
class_size c = head_size c + row_size field_size c.fields + row_size method_size c.methods + 1

pub record IsClass (ts : List Token) (i : ℕ) (c : Class) : Type 0 where
  pub class_word : Stands ts i terminals.Class
  pub name : name_at ts (i + 1) ≡ Some c.name
  pub superclass : IsSuperclass ts (i + 2) c.superclass
  pub brace : Stands ts (i + (2 + superclass_size c.superclass)) terminals.LeftBrace
  pub fields : InRow (IsField ts) field_size (i + head_size c) c.fields
  pub methods : InRow (IsMethodAt ts) method_size (i + head_size c + row_size field_size c.fields)
      c.methods
  pub end_brace : Stands ts
      (i + head_size c + row_size field_size c.fields + row_size method_size c.methods)
      terminals.RightBrace

abbrev pub class_height : Class → ℕ
class_height c = row_height method_height c.methods

-- the main class, whose `main` begins at place 3; the statement is numbered from there
pub record IsMain (ts : List Token) (m : Main) : Type 0 where
  pub class_word : Stands ts 0 terminals.Class
  pub name : name_at ts 1 ≡ Some m.name
  pub brace : Stands ts 2 terminals.LeftBrace
  pub head : main_head (drop 3 ts) ≡ true
  pub parameter : main_parameter (drop 3 ts) ≡ true
  pub statement : IsStmt (drop 3 ts) 11 m.statement
  pub end_brace : Stands (drop 3 ts) (11 + stmt_size m.statement) terminals.RightBrace
  pub end_class : Stands (drop 3 ts) (11 + stmt_size m.statement + 1) terminals.RightBrace

abbrev pub main_size : Main → ℕ
main_size m = 3 + (11 + stmt_size m.statement + 2)

-- ---- files

abbrev pub IsMainPart : List Token → Option Main → Type 0
IsMainPart ts None = Unit {0}
IsMainPart ts (Some m) = IsMain ts m

abbrev pub main_part_size : Option Main → ℕ
main_part_size None = 0
main_part_size (Some m) = main_size m

abbrev pub main_part_height : Option Main → ℕ
main_part_height None = 0
main_part_height (Some m) = stmt_height m.statement

abbrev pub file_size : File → ℕ
file_size f = main_part_size f.main + row_size class_size f.classes

abbrev pub file_height : File → ℕ
file_height f = max (main_part_height f.main) (row_height class_height f.classes)

-- The tokens are those of the file, in which no phrase has a level over `most_levels`. A statement
-- in a body and the returned expression have level 1, a part of a phrase one more than the phrase.
pub record Derives (ts : List Token) (f : File) : Type 0 where
  pub main : IsMainPart ts f.main
  pub classes : InRow (IsClass ts) class_size (main_part_size f.main) f.classes
  pub whole : file_size f ≡ length ts
  pub low : file_height f ≤ most_levels
