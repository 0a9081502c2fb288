-- The law of reading expressions.
use Rattle.std.specs.Prelude.{◌≡◌, ◌↔◌, ◌⊎◌, ℕ, ◌+◌, ◌≤◌, List, Some}
use Rattle.mj_lexer.specs.declared.token.Token.{Token}
use Rattle.mj_lexer.specs.declared.token.Terminal.TheVariants as terminals
use Rattle.mj_tree.specs.Trees.{Expression}
use Rattle.mj_expressions.specs.Tokens.{Stands}
use Rattle.mj_expressions.specs.Expressions.{any_tier, size, height, IsExp}
use Rattle.mj_expressions.specs.ExpressionReading.{exp_at}

-- What stands behind an expression of a statement.
abbrev pub ClosesAt : List Token → ℕ → Type 0
ClosesAt ts j =
    Stands ts j terminals.RightParenthesis
    ⊎ Stands ts j terminals.RightBracket
    ⊎ Stands ts j terminals.Semicolon

-- Up to what closes it, reading finds just the expression that the grammar has there, if it has no more levels than
-- there is room for.
abbrev pub ExpressionLaw : Type 0
ExpressionLaw = (ts : List Token) (room i j : ℕ) (e : Expression) → ClosesAt ts j
    → (exp_at room ts any_tier i ≡ Some (e, j))
    ↔ (IsExp ts any_tier i e × (j ≡ i + size e) × (height e ≤ room))
