-- A loop over what follows an expression.
use Rattle.std.proofs.Common.{◌≡◌, ℕ, max, zero, suc, ◌+◌, ◌<◌, ◌≤◌, true, false, List, [], ◌∷◌, ◌++◌, length, Some, None, refl, arith, le-leb}
use Rattle.std.proofs.lemmas.Bool.{lt-leb}
use Rattle.mj_lexer.specs.declared.token.Token.{Token}
use Rattle.mj_lexer.specs.declared.token.Terminal.TheVariants as terminals
use Rattle.mj_tree.specs.declared.tree.Exp.{Exp}
use Rattle.mj_tree.specs.declared.tree.Operator.{Operator}
use Rattle.mj_expressions.specs.Tokens.{has}
use Rattle.mj_tree.specs.Trees.{Expression, Binary}
use Rattle.mj_tree.specs.Views.{exp_view, exps_view}
use Rattle.mj_expressions.specs.Expressions.{height, heights}
use Rattle.mj_expressions.specs.ExpressionReading.{Reading, TierParser, operator_at, binary_from, takes_index, post_from, index_at, member_at, exp_at}

-- no expression has no levels
pub no_room : (ts : List Token) (room d i : ℕ) → room ≡ 0 → exp_at room ts d i ≡ None
unfolding exp_at
no_room ts zero d i e = refl
no_room ts (suc room) d i e = absurd (omega arith)

-- With gas enough, what follows the tree is read to this end.
abbrev pub ChainLeads : TierParser → List Token → ℕ → ℕ → Expression → ℕ → Reading → Type 0
ChainLeads part ts room d left j total = (gas : ℕ) → length ts < gas + j → binary_from gas part ts room d left j ≡ total

abbrev pub PostLeads : TierParser → List Token → ℕ → Expression → ℕ → Reading → Type 0
PostLeads part ts room left j total = (gas : ℕ) → length ts < gas + j → post_from gas part ts room left j ≡ total

module _ (part : TierParser) (ts : List Token) (room d : ℕ) (left : Expression) (j : ℕ) (within : j ≤ length ts) where
  pub chain_ends : operator_at ts j d ≡ None → ChainLeads part ts room d left j (Some (left, j))
  unfolding binary_from
  chain_ends e zero enough = absurd (omega arith)
  chain_ends e (suc gas) enough = rw (binary_from, e) refl

  pub chain_too_deep : (o : Operator) → operator_at ts j d ≡ Some o → room < height left → ChainLeads part ts room d left j None
  unfolding binary_from
  chain_too_deep o e deep zero enough = absurd (omega arith)
  chain_too_deep o e deep (suc gas) enough = rw (binary_from, e, lt-leb _ _ deep) refl

  pub chain_no_part : (o : Operator) → operator_at ts j d ≡ Some o → height left ≤ room → part d (j + 1) ≡ None → ChainLeads part ts room d left j None
  unfolding binary_from
  chain_no_part o e fits n zero enough = absurd (omega arith)
  chain_no_part o e fits n (suc gas) enough = rw (binary_from, e, le-leb _ _ fits, n) refl

  pub chain_goes_on : (o : Operator) (right : Expression) (k : ℕ) (total : Reading) → operator_at ts j d ≡ Some o → height left ≤ room → part d (j + 1) ≡ Some (right, k) → j < k → ChainLeads part ts room d (Binary o j left right) k total → ChainLeads part ts room d left j total
  unfolding binary_from
  chain_goes_on o right k total e fits n onward leads zero enough = absurd (omega arith)
  chain_goes_on o right k total e fits n onward leads (suc gas) enough = rw (binary_from, e, le-leb _ _ fits, n) (leads gas (omega arith))

module _ (part : TierParser) (ts : List Token) (room : ℕ) (left : Expression) (j : ℕ) (within : j ≤ length ts) where
  pub post_ends : takes_index ts left j ≡ false → has ts j terminals.Dot ≡ false → PostLeads part ts room left j (Some (left, j))
  unfolding post_from
  post_ends e f zero enough = absurd (omega arith)
  post_ends e f (suc gas) enough = rw (post_from, e, f) refl

  pub index_too_deep : takes_index ts left j ≡ true → room < height left → PostLeads part ts room left j None
  unfolding post_from
  index_too_deep e deep zero enough = absurd (omega arith)
  index_too_deep e deep (suc gas) enough = rw (post_from, e, lt-leb _ _ deep) refl

  pub no_index : takes_index ts left j ≡ true → height left ≤ room → index_at part ts left j ≡ None → PostLeads part ts room left j None
  unfolding post_from
  no_index e fits n zero enough = absurd (omega arith)
  no_index e fits n (suc gas) enough = rw (post_from, e, le-leb _ _ fits, n) refl

  pub index_goes_on : (next : Expression) (k : ℕ) (total : Reading) → takes_index ts left j ≡ true → height left ≤ room → index_at part ts left j ≡ Some (next, k) → j < k → PostLeads part ts room next k total → PostLeads part ts room left j total
  unfolding post_from
  index_goes_on next k total e fits n onward leads zero enough = absurd (omega arith)
  index_goes_on next k total e fits n onward leads (suc gas) enough = rw (post_from, e, le-leb _ _ fits, n) (leads gas (omega arith))

  pub member_too_deep : takes_index ts left j ≡ false → has ts j terminals.Dot ≡ true → room < height left → PostLeads part ts room left j None
  unfolding post_from
  member_too_deep e f deep zero enough = absurd (omega arith)
  member_too_deep e f deep (suc gas) enough = rw (post_from, e, f, lt-leb _ _ deep) refl

  pub no_member : takes_index ts left j ≡ false → has ts j terminals.Dot ≡ true → height left ≤ room → member_at part ts left (j + 1) ≡ None → PostLeads part ts room left j None
  unfolding post_from
  no_member e f fits n zero enough = absurd (omega arith)
  no_member e f fits n (suc gas) enough = rw (post_from, e, f, le-leb _ _ fits, n) refl

  pub member_goes_on : (next : Expression) (k : ℕ) (total : Reading) → takes_index ts left j ≡ false → has ts j terminals.Dot ≡ true → height left ≤ room → member_at part ts left (j + 1) ≡ Some (next, k) → j < k → PostLeads part ts room next k total → PostLeads part ts room left j total
  unfolding post_from
  member_goes_on next k total e f fits n onward leads zero enough = absurd (omega arith)
  member_goes_on next k total e f fits n onward leads (suc gas) enough = rw (post_from, e, f, le-leb _ _ fits, n) (leads gas (omega arith))

pub heights_push : (es : List Exp) (e : Exp) → heights (exps_view (es ++ e ∷ [])) ≡ max (heights (exps_view es)) (height (exp_view e))
heights_push [] e = omega arith
heights_push (f ∷ es) e = omega (arith, heights_push es e)
