-- Reading an expression. A part is read by a function that is handed in, so that each level stands
-- on the one below it.
use Rattle.std.specs.Prelude.{ℕ, zero, suc, ◌+◌, Bool, true, false, ◌&&◌, not, nat_le, ◌==◌, List, length, Option, Some, None, if◌then◌else◌, codes}
use Rattle.mj_lexer.specs.declared.token.Token.{Token}
use Rattle.mj_lexer.specs.declared.token.Terminal.{Terminal}
use Rattle.mj_lexer.specs.declared.token.Terminal.TheVariants as terminals
use Rattle.mj_lexer.specs.declared.token.TokenKind.{TokenKind}
use Rattle.mj_lexer.specs.declared.token.TokenKind.TheVariants as kinds
use Rattle.mj_tree.specs.declared.tree.Operator.{Operator}
use Rattle.mj_tree.specs.declared.tree.Operator.TheVariants.{And, Less, Plus, Minus, Times}
use Rattle.mj_expressions.specs.Tokens.{kind_at, has, says, name_at}
use Rattle.mj_tree.specs.Trees.{Expression, Binary, Index, Length, Call, Literal, Boolean, Named, This, NewArray, NewObject, Not, Parenthesized}
use Rattle.mj_tree.specs.Views.{expressions_of}
use Rattle.mj_expressions.specs.Expressions.{any_tier, unary_tier, tier_of, height, is_new_array}
use Rattle.mj_expressions.specs.Steps.{◌>>=◌, when, listed_at}

-- an expression, and the place after it
abbrev pub Reading : Type 0
Reading = Option (Expression × ℕ)

-- reads an expression of a tier at a place
abbrev pub TierParser : Type 0
TierParser = ℕ → ℕ → Reading

abbrev pub close : List Token → Terminal → (Expression → Expression) → Expression × ℕ → Reading
close ts mark make x = when (has ts x.1 mark) (Some (make x.0, x.1 + 1))

-- a new object
abbrev pub object_at : List Token → ℕ → Reading
object_at ts i = name_at ts (i + 1) >>= λ name. when
    (has ts (i + 2) terminals.LeftParenthesis && has ts (i + 3) terminals.RightParenthesis)
    (Some (NewObject i name, i + 4))

unfoldable pub new_at : TierParser → List Token → ℕ → Reading
new_at part ts i =
    if has ts (i + 1) terminals.Int
    then when (has ts (i + 2) terminals.LeftBracket)
    (part any_tier (i + 3) >>= close ts terminals.RightBracket (NewArray i))
    else object_at ts i

unfoldable pub terminal_at : TierParser → List Token → ℕ → Terminal → Reading
terminal_at part ts i terminals.True = Some (Boolean i true, i + 1)
terminal_at part ts i terminals.False = Some (Boolean i false, i + 1)
terminal_at part ts i terminals.This = Some (This i, i + 1)
terminal_at part ts i terminals.New = new_at part ts i
terminal_at part ts i terminals.LeftParenthesis =
    part any_tier (i + 1) >>= close ts terminals.RightParenthesis (Parenthesized i)
terminal_at part ts i _ = None

abbrev pub prim_of : TierParser → List Token → ℕ → Option TokenKind → Reading
prim_of part ts i None = None
prim_of part ts i (Some (kinds.Identifier name)) = Some (Named i name, i + 1)
prim_of part ts i (Some (kinds.Literal value)) = Some (Literal i value, i + 1)
prim_of part ts i (Some (kinds.Terminal mark)) = terminal_at part ts i mark

unfoldable pub prim_at : TierParser → List Token → ℕ → Reading
prim_at part ts i = prim_of part ts i (kind_at ts i)

-- an index behind a tree, and a member
unfoldable pub index_at : TierParser → List Token → Expression → ℕ → Reading
index_at part ts left j = part any_tier (j + 1) >>= close ts terminals.RightBracket (Index j left)

unfoldable pub member_at : TierParser → List Token → Expression → ℕ → Reading
member_at part ts left mark = name_at ts mark >>= λ name.
    if has ts (mark + 1) terminals.LeftParenthesis
    then (listed_at (part any_tier) ts (mark + 2)
    >>= λ x. Some (Call mark left name (expressions_of x.0), x.1))
    else when (says ts mark (codes "length")) (Some (Length mark left, mark + 1))

abbrev pub takes_index : List Token → Expression → ℕ → Bool
takes_index ts left j = has ts j terminals.LeftBracket && not (is_new_array left)

-- what follows a primary
unfoldable pub post_from : ℕ → TierParser → List Token → ℕ → Expression → ℕ → Reading
post_from zero part ts room left j = None
post_from (suc gas) part ts room left j =
    if takes_index ts left j
    then when (nat_le (height left) room)
    (index_at part ts left j >>= λ x. post_from gas part ts room x.0 x.1)
    else (if has ts j terminals.Dot
    then when (nat_le (height left) room)
    (member_at part ts left (j + 1) >>= λ x. post_from gas part ts room x.0 x.1)
    else Some (left, j))

unfoldable pub post_at : TierParser → List Token → ℕ → ℕ → Reading
post_at part ts room i = prim_at part ts i >>= λ x. post_from (suc (length ts)) part ts room x.0 x.1

-- the operator at a place
unfoldable pub operator_here : List Token → ℕ → Option Operator
operator_here ts j =
    if has ts j terminals.And then Some And else (
    if has ts j terminals.Less then Some Less else (
    if has ts j terminals.Plus then Some Plus else (
    if has ts j terminals.Minus then Some Minus else (
    if has ts j terminals.Times then Some Times else None))))

-- that operator, if its right operand is of tier d
abbrev pub of_tier : ℕ → Option Operator → Option Operator
of_tier d None = None
of_tier d (Some operator) = if tier_of operator == d then Some operator else None

abbrev pub operator_at : List Token → ℕ → ℕ → Option Operator
operator_at ts j d = of_tier d (operator_here ts j)

unfoldable pub binary_from : ℕ → TierParser → List Token → ℕ → ℕ → Expression → ℕ → Reading
binary_from zero part ts room d left j = None
binary_from (suc gas) part ts room d left j =
    elim (operator_at ts j d) [
      | None ↦ Some (left, j)
      | Some operator ↦
          when (nat_le (height left) room)
          (part d (j + 1) >>= λ x. binary_from gas part ts room d
          (Binary operator j left x.0) x.1)
    ]

unfoldable pub tier_at : TierParser → List Token → ℕ → ℕ → ℕ → Reading
tier_at part ts room zero i = post_at part ts room i
tier_at part ts room (suc zero) i =
    if has ts i terminals.Not then (part unary_tier (i + 1) >>= λ x. Some (Not i x.0, x.1))
    else post_at part ts room i
tier_at part ts room (suc (suc d)) i =
    tier_at part ts room (suc d) i
    >>= λ x. binary_from (suc (length ts)) part ts room (suc d) x.0 x.1

-- an expression of a tier, of at most this many levels
unfoldable pub exp_at : ℕ → List Token → ℕ → ℕ → Reading
exp_at zero ts d i = None
exp_at (suc room) ts d i = tier_at (exp_at room ts) ts room d i
