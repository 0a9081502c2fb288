-- Reading trees from left to right.
use Rattle.std.specs.Prelude.{ℕ, zero, suc, List, [], ◌∷◌, Ok, Err, Option, Some, None, nat_lt, if◌then◌else◌}
use Rattle.mj_tree.specs.declared.tree.Ty.{Ty}
use Rattle.mj_tree.specs.declared.tree.Ty.TheVariants.{Int, Boolean, IntArray, Class}
use Rattle.mj_tree.specs.declared.tree.Field.{Field}
use Rattle.mj_tree.specs.declared.tree.Variable.{Variable}
use Rattle.mj_tree.specs.Trees.{Expression, Expressions, Statement, Statements, Method, Main, File}
use Rattle.mj_tree.specs.Trees as trees
use Rattle.mj_tree.specs.Views.{expressions_of, statements_of}
use Rattle.byte_readers.specs.declared.breach.Breach.TheVariants.{Short}
use Rattle.byte_readers.specs.Reading.{◌>>=◌, Decoder, not_canonical, any, byte_at, four_at, name_at, pair_at, made_at, option_at, list_at}
use Rattle.tree_spelling.specs.declared.tag.ExpTag.{ExpTag}
use Rattle.tree_spelling.specs.declared.tag.ExpTag.TheVariants as tags
use Rattle.tree_spelling.specs.declared.tag.TwoParts.{TwoParts}
use Rattle.tree_spelling.specs.declared.tag.TwoParts.TheVariants as twos
use Rattle.tree_spelling.specs.declared.tag.OnePart.{OnePart}
use Rattle.tree_spelling.specs.declared.tag.OnePart.TheVariants as ones
use Rattle.tree_spelling.specs.declared.tag.StmtTag.{StmtTag}
use Rattle.tree_spelling.specs.declared.tag.StmtTag.TheVariants as statements
use Rattle.tree_spelling.specs.Tags.{exp_tag_of, stmt_tag_of}
use Rattle.mj_tree.specs.Limits.{most_levels}
use Rattle.mj_lexer.specs.Bytes.{greatest_literal}

unfoldable pub ty_at : Decoder Ty
ty_at [] = Err Short
ty_at (zero ∷ rest) = Ok (Int, rest)
ty_at (suc zero ∷ rest) = Ok (Boolean, rest)
ty_at (suc (suc zero) ∷ rest) = Ok (IntArray, rest)
ty_at (suc (suc (suc zero)) ∷ rest) = made_at Class name_at rest
ty_at (suc (suc (suc (suc b))) ∷ rest) = not_canonical (suc (suc (suc (suc b))) ∷ rest)

abbrev pub made_field : List ℕ × Ty → Field
made_field x = record { name = x.0; ty = x.1 }

abbrev pub field_at : Decoder Field
field_at bytes = made_at made_field (pair_at name_at ty_at) bytes

abbrev pub made_variable : List ℕ × (Ty × ℕ) → Variable
made_variable x = record { name = x.0; ty = x.1.0; mark = x.1.1 }

abbrev pub variable_at : Decoder Variable
variable_at bytes = made_at made_variable (pair_at name_at (pair_at ty_at four_at)) bytes

unfoldable pub literal_at : Decoder ℕ
literal_at bytes = do
  n ← four_at bytes
  if nat_lt greatest_literal n.0 then not_canonical bytes else Ok n

abbrev pub two_of : TwoParts → ℕ → Expression → Expression → Expression
two_of (twos.Binary operator) mark left right = trees.Binary operator mark left right
two_of twos.Index mark array index = trees.Index mark array index

abbrev pub one_of : OnePart → ℕ → Expression → Expression
one_of ones.Length mark part = trees.Length mark part
one_of ones.NewArray mark part = trees.NewArray mark part
one_of ones.Not mark part = trees.Not mark part
one_of ones.Parenthesized mark part = trees.Parenthesized mark part

abbrev pub exps_at : Decoder Expression → Decoder Expressions
exps_at part bytes = made_at expressions_of (list_at part any) bytes

abbrev pub stmts_at : Decoder Statement → Decoder Statements
stmts_at part bytes = made_at statements_of (list_at part any) bytes

-- what follows a tag and a mark
abbrev pub exp_body_at : Decoder Expression → ExpTag → ℕ → Decoder Expression
exp_body_at part (tags.Two two) mark bytes =
    made_at (λ x. two_of two mark x.0 x.1) (pair_at part part) bytes
exp_body_at part (tags.One one) mark bytes = made_at (one_of one mark) part bytes
exp_body_at part tags.Call mark bytes =
    made_at (λ x. trees.Call mark x.0 x.1.0 x.1.1)
    (pair_at part (pair_at name_at (exps_at part))) bytes
exp_body_at part tags.Literal mark bytes = made_at (trees.Literal mark) literal_at bytes
exp_body_at part (tags.Boolean value) mark bytes = Ok (trees.Boolean mark value, bytes)
exp_body_at part tags.Variable mark bytes = made_at (trees.Named mark) name_at bytes
exp_body_at part tags.This mark bytes = Ok (trees.This mark, bytes)
exp_body_at part tags.NewObject mark bytes = made_at (trees.NewObject mark) name_at bytes

abbrev pub exp_behind_tag : Decoder Expression → List ℕ → Option ExpTag → Decoder Expression
exp_behind_tag part bytes None rest = not_canonical bytes
exp_behind_tag part bytes (Some tag) rest = do
  mark ← four_at rest
  exp_body_at part tag mark.0 mark.1

-- an expression of at most this many levels
unfoldable pub exp_at : ℕ → Decoder Expression
exp_at zero bytes = byte_at bytes >>= λ tag. not_canonical bytes
exp_at (suc room) bytes =
    byte_at bytes >>= λ tag. exp_behind_tag (exp_at room) bytes (exp_tag_of tag.0) tag.1

-- what follows a tag and a mark
abbrev pub stmt_body_at : Decoder Expression → Decoder Statement → StmtTag → ℕ → Decoder Statement
stmt_body_at value part statements.Block mark bytes =
    made_at (trees.Block mark) (stmts_at part) bytes
stmt_body_at value part statements.If mark bytes =
    made_at (λ x. trees.If mark x.0 x.1.0 x.1.1) (pair_at value (pair_at part part)) bytes
stmt_body_at value part statements.While mark bytes =
    made_at (λ x. trees.While mark x.0 x.1) (pair_at value part) bytes
stmt_body_at value part statements.Print mark bytes = made_at (trees.Print mark) value bytes
stmt_body_at value part statements.Assign mark bytes =
    made_at (λ x. trees.Assign mark x.0 x.1.0 x.1.1) (pair_at name_at (pair_at four_at value)) bytes
stmt_body_at value part statements.Store mark bytes =
    made_at (λ x. trees.Store mark x.0 x.1.0 x.1.1.0 x.1.1.1)
    (pair_at name_at (pair_at four_at (pair_at value value))) bytes

abbrev pub stmt_behind_tag : Decoder Expression → Decoder Statement → List ℕ → Option StmtTag
    → Decoder Statement
stmt_behind_tag value part bytes None rest = not_canonical bytes
stmt_behind_tag value part bytes (Some tag) rest = do
  mark ← four_at rest
  stmt_body_at value part tag mark.0 mark.1

-- a statement of at most this many levels
unfoldable pub stmt_at : ℕ → Decoder Statement
stmt_at zero bytes = byte_at bytes >>= λ tag. not_canonical bytes
stmt_at (suc room) bytes =
    byte_at bytes >>= λ tag. stmt_behind_tag (exp_at room) (stmt_at room) bytes
    (stmt_tag_of tag.0) tag.1

-- a statement and an expression of level 1
unfoldable pub top_stmt_at : Decoder Statement
top_stmt_at bytes = stmt_at most_levels bytes

unfoldable pub top_stmts_at : Decoder Statements
top_stmts_at bytes = stmts_at (stmt_at most_levels) bytes

unfoldable pub top_exp_at : Decoder Expression
top_exp_at bytes = exp_at most_levels bytes

abbrev pub made_method : List ℕ × (Ty
    × (List Variable × (List Variable × (Statements × (Expression × ℕ))))) → Method
made_method x =
    record {
      name = x.0;
      returns = x.1.0;
      formals = x.1.1.0;
      locals = x.1.1.1.0;
      body = x.1.1.1.1.0;
      returned = x.1.1.1.1.1.0;
      return_mark = x.1.1.1.1.1.1;
    }

unfoldable pub method_at : Decoder Method
method_at bytes =
    made_at made_method (pair_at name_at
    (pair_at ty_at (pair_at (list_at variable_at any)
    (pair_at (list_at variable_at any)
    (pair_at top_stmts_at (pair_at top_exp_at four_at)))))) bytes

-- the types in front of a method, behind its name
abbrev pub types_at : Decoder (Ty × List Variable)
types_at bytes =
    made_at (λ x. x.1) (pair_at name_at (pair_at ty_at (list_at variable_at any))) bytes

-- a method of a class: any other tag is refused, that of `main` too
unfoldable pub tagged_method_at : Decoder Method
tagged_method_at [] = Err Short
tagged_method_at (zero ∷ rest) = not_canonical (zero ∷ rest)
tagged_method_at (suc zero ∷ rest) = method_at rest
tagged_method_at (suc (suc b) ∷ rest) = not_canonical (suc (suc b) ∷ rest)

abbrev pub made_main : List ℕ × Statement → Main
made_main x = record { name = x.0; statement = x.1 }

unfoldable pub main_at : Decoder Main
main_at bytes = made_at made_main (pair_at name_at top_stmt_at) bytes

abbrev pub made_class : List ℕ × (Option (List ℕ) × (List Field × List Method)) → trees.Class
made_class x = record { name = x.0; superclass = x.1.0; fields = x.1.1.0; methods = x.1.1.1 }

unfoldable pub class_at : Decoder trees.Class
class_at bytes =
    made_at made_class (pair_at name_at
    (pair_at (option_at name_at)
    (pair_at (list_at field_at any) (list_at tagged_method_at any)))) bytes

abbrev pub made_file : Option Main × List trees.Class → File
made_file x = record { main = x.0; classes = x.1 }

unfoldable pub file_at : Decoder File
file_at bytes = made_at made_file (pair_at (option_at main_at) (list_at class_at any)) bytes
