-- Reading finds just the expressions that are closed.
use Rattle.std.proofs.Common.{◌≡◌, ℕ, ◌+◌, ◌≤◌, true, List, Some, arith, inl, inr}
use Rattle.mj_lexer.specs.declared.token.Token.{Token}
use Rattle.mj_lexer.specs.declared.token.Terminal.{Terminal}
use Rattle.mj_lexer.specs.declared.token.Terminal.TheVariants as terminals
use Rattle.mj_tree.specs.Trees.{Expression}
use Rattle.mj_expressions.specs.Tokens.{has}
use Rattle.mj_expressions.specs.Expressions.{size, height, IsExp}
use Rattle.mj_expressions.specs.ExpressionReading.{exp_at}
use Rattle.mj_expressions.specs.Laws.{ClosesAt, ExpressionLaw}
use Rattle.mj_expressions.proofs.Marks.{IsCloser, has_within, stops_closer}
use Rattle.mj_expressions.proofs.Stands.{has_is}
use Rattle.mj_expressions.proofs.ExpressionFound.{exp_found}
use Rattle.mj_expressions.proofs.ExpressionAgain.{exp_again, closer_paren, closer_bracket, closer_semicolon}

-- an expression that this token ends
pub exp_before : (ts : List Token) (room : ℕ) (m : Terminal) → IsCloser m → (i j : ℕ) (e : Expression) → IsExp ts 5 i e → height e ≤ room → j ≡ i + size e → has ts j m ≡ true → exp_at room ts 5 i ≡ Some (e, j)
exp_before ts room m closer i j e h low at c = let w = has_within ts j m c in exp_again ts room 5 i j e h low at (omega arith) (stops_closer ts 5 j m c closer)

closed_is_found : (ts : List Token) (room i j : ℕ) (e : Expression) → ClosesAt ts j → IsExp ts 5 i e → j ≡ i + size e → height e ≤ room → exp_at room ts 5 i ≡ Some (e, j)
closed_is_found ts room i j e (inl c) h at low = exp_before ts room terminals.RightParenthesis closer_paren i j e h low at (has_is _ _ _ c)
closed_is_found ts room i j e (inr (inl c)) h at low = exp_before ts room terminals.RightBracket closer_bracket i j e h low at (has_is _ _ _ c)
closed_is_found ts room i j e (inr (inr c)) h at low = exp_before ts room terminals.Semicolon closer_semicolon i j e h low at (has_is _ _ _ c)

pub expression_law : ExpressionLaw
expression_law ts room i j e closes = ((λ found. let s = exp_found ts room 5 i (e, j) found in (s.is, s.at, s.low)), (λ is. closed_is_found ts room i j e closes is.0 is.1 is.2))
