-- Reading declarations and the whole file.
use Rattle.std.specs.Prelude.{ℕ, suc, ◌+◌, Bool, ◌&&◌, ◌||◌, not, nat_lt, is_some, List, length, drop, Option, Some, None, if◌then◌else◌}
use Rattle.mj_lexer.specs.declared.token.Token.{Token}
use Rattle.mj_lexer.specs.declared.token.Terminal.TheVariants as terminals
use Rattle.mj_parser.specs.declared.declarations.MethodHeading as parts
use Rattle.mj_tree.specs.declared.tree.Ty.{Ty}
use Rattle.mj_tree.specs.declared.tree.Ty.TheVariants as types
use Rattle.mj_tree.specs.declared.tree.Field.{Field}
use Rattle.mj_tree.specs.declared.tree.Variable.{Variable}
use Rattle.mj_expressions.specs.Tokens.{has, name_at}
use Rattle.mj_tree.specs.Trees.{Name, Statement, Method, Main, Class, File}
use Rattle.mj_tree.specs.Views.{statements_of}
use Rattle.mj_tree.specs.Limits.{most_levels}
use Rattle.mj_expressions.specs.Expressions.{any_tier}
use Rattle.mj_parser.specs.Declarations.{main_head, main_parameter}
use Rattle.mj_expressions.specs.Steps.{◌>>=◌, when, PartParser, items_from, listed_at}
use Rattle.mj_expressions.specs.ExpressionReading.{exp_at}
use Rattle.mj_parser.specs.StatementReading.{stmt_at}

-- ---- types and variables

unfoldable pub type_at : List Token → PartParser Ty
type_at ts i =
    if has ts i terminals.Int
    then (if has ts (i + 1) terminals.LeftBracket
    then when (has ts (i + 2) terminals.RightBracket) (Some (types.IntArray, i + 3))
    else Some (types.Int, i + 1))
    else (if has ts i terminals.Boolean
    then Some (types.Boolean, i + 1)
    else (name_at ts i >>= λ name. Some (types.Class name, i + 1)))

unfoldable pub variable_at : List Token → PartParser Variable
variable_at ts i =
    type_at ts i >>= λ t. name_at ts t.1
    >>= λ name. Some (record { name = name; ty = t.0; mark = i }, t.1 + 1)

unfoldable pub local_at : List Token → PartParser Variable
local_at ts i =
    variable_at ts i >>= λ v. when (has ts v.1 terminals.Semicolon) (Some (v.0, v.1 + 1))

abbrev pub field_of : Variable → Field
field_of v = record { name = v.name; ty = v.ty }

unfoldable pub field_at : List Token → PartParser Field
field_at ts i = local_at ts i >>= λ v. Some (field_of v.0, v.1)

-- a type begins here
abbrev pub begins_type : List Token → ℕ → Bool
begins_type ts i = has ts i terminals.Int || has ts i terminals.Boolean || is_some (name_at ts i)

-- A local begins here, and no statement: two names in a row, `int` or `boolean`.
abbrev pub begins_local : List Token → ℕ → Bool
begins_local ts i =
    has ts i terminals.Int || has ts i terminals.Boolean
    || (is_some (name_at ts i) && is_some (name_at ts (i + 1)))

-- ---- methods, whose tokens are numbered from `public`

-- what stands before the locals
pub record MethodHeading : Type 0 where
  pub name : Name
  pub returns : Ty
  pub formals : List Variable

abbrev pub signature_view : parts.MethodHeading → MethodHeading
signature_view s = record { name = s.name; returns = s.returns; formals = s.formals.items }

-- the formals and the brace that opens the body, behind the type and the name
abbrev pub signature_of : List Token → Name → Ty → ℕ → Option (MethodHeading × ℕ)
signature_of ts name returns i =
    listed_at (variable_at ts) ts i
    >>= λ fs. when (has ts fs.1 terminals.LeftBrace)
    (Some (record { name = name; returns = returns; formals = fs.0 }, fs.1 + 1))

unfoldable pub signature_at : List Token → Option (MethodHeading × ℕ)
signature_at ts =
    when (has ts 0 terminals.Public)
    (type_at ts 1 >>= λ t. name_at ts t.1
    >>= λ name. when (has ts (t.1 + 1) terminals.LeftParenthesis)
    (signature_of ts name t.0 (t.1 + 2)))

abbrev pub not_return : List Token → ℕ → Bool
not_return ts i = not (has ts i terminals.Return)

-- `return Exp ; }` behind the statements
unfoldable pub method_of : List Token → MethodHeading → List Variable → List Statement × ℕ
    → Option (Method × ℕ)
method_of ts s locals body =
    exp_at most_levels ts any_tier (body.1 + 1)
    >>= λ e. when (has ts e.1 terminals.Semicolon && has ts (e.1 + 1) terminals.RightBrace)
    (Some (
      record {
        name = s.name;
        returns = s.returns;
        formals = s.formals;
        locals = locals;
        body = statements_of body.0;
        returned = e.0;
        return_mark = body.1;
      },
      e.1 + 2,
    ))

unfoldable pub method_at : List Token → Option (Method × ℕ)
method_at ts =
    signature_at ts >>= λ s. items_from (suc (length ts)) (local_at ts) (begins_local ts) s.1
    >>= λ locals.
    items_from (suc (length ts)) (stmt_at most_levels ts) (not_return ts) locals.1
    >>= λ body. method_of ts s.0 locals.0 body

-- ---- classes

-- a method that begins at a place
unfoldable pub method_from : List Token → PartParser Method
method_from ts i = method_at (drop i ts) >>= λ m. Some (m.0, i + m.1)

unfoldable pub superclass_at : List Token → ℕ → Option (Option Name × ℕ)
superclass_at ts i =
    if has ts i terminals.Extends then (name_at ts (i + 1) >>= λ name. Some (Some name, i + 2))
    else Some (None, i)

abbrev pub at_public : List Token → ℕ → Bool
at_public ts i = has ts i terminals.Public

unfoldable pub class_at : List Token → PartParser Class
class_at ts i =
    when (has ts i terminals.Class)
    (name_at ts (i + 1) >>= λ name. superclass_at ts (i + 2)
    >>= λ s. when (has ts s.1 terminals.LeftBrace)
    (items_from (suc (length ts)) (field_at ts) (begins_type ts) (s.1 + 1)
    >>= λ fields. items_from (suc (length ts)) (method_from ts) (at_public ts) fields.1
    >>= λ methods. when (has ts methods.1 terminals.RightBrace)
    (Some (
      record { name = name; superclass = s.0; fields = fields.0; methods = methods.0 },
      methods.1 + 1,
    ))))

-- ---- files

-- The first class is the main class: `public static` stands at its front.
abbrev pub begins_main : List Token → Bool
begins_main ts =
    has ts 2 terminals.LeftBrace && has ts 3 terminals.Public && has ts 4 terminals.Static

-- `main` from its `public` on, with the brace that closes the class
unfoldable pub main_method_at : List Token → Option (Statement × ℕ)
main_method_at ts =
    when (main_head ts && main_parameter ts)
    (stmt_at most_levels ts 11
    >>= λ s. when (has ts s.1 terminals.RightBrace && has ts (s.1 + 1) terminals.RightBrace)
    (Some (s.0, s.1 + 2)))

-- a main class from its `main` on
unfoldable pub main_from : List Token → Option (Statement × ℕ)
main_from ts = main_method_at (drop 3 ts) >>= λ s. Some (s.0, 3 + s.1)

-- the main class of a name
abbrev pub main_named : List Token → Name → Option (Main × ℕ)
main_named ts name = main_from ts >>= λ s. Some (record { name = name; statement = s.0 }, s.1)

unfoldable pub main_at : List Token → Option (Main × ℕ)
main_at ts =
    when (has ts 0 terminals.Class)
    (name_at ts 1 >>= λ name. when (has ts 2 terminals.LeftBrace) (main_named ts name))

unfoldable pub main_part_at : List Token → Option (Option Main × ℕ)
main_part_at ts =
    if begins_main ts then (main_at ts >>= λ m. Some (Some m.0, m.1)) else Some (None, 0)

-- some tokens are left
abbrev pub before_end : List Token → ℕ → Bool
before_end ts i = nat_lt i (length ts)

-- The file that the tokens are, if there is one.
unfoldable pub tree_of : List Token → Option File
tree_of ts =
    main_part_at ts >>= λ m. items_from (suc (length ts)) (class_at ts) (before_end ts) m.1
    >>= λ cs. Some (record { main = m.0; classes = cs.0 })
