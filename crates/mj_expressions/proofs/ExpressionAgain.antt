-- What is an expression by the grammar is read as that expression.
use Rattle.std.proofs.Common.{◌≡◌, ℕ, zero, suc, ◌+◌, ◌<◌, ◌≤◌, true, false, List, length, Option, Some, None, refl, ap, ◌∙◌, subst, arith, inl, inr}
use Rattle.std.specs.Prelude.{codes}
use Rattle.mj_lexer.specs.declared.token.Terminal.{Terminal}
use Rattle.mj_lexer.specs.declared.token.Token.{Token}
use Rattle.mj_lexer.specs.declared.token.Terminal.TheVariants as terminals
use Rattle.mj_lexer.specs.declared.token.TokenKind.{TokenKind}
use Rattle.mj_lexer.specs.declared.token.TokenKind.TheVariants as kinds
use Rattle.std.proofs.lemmas.Bool.{cases_lt}
use Rattle.mj_tree.specs.declared.tree.Operator.{Operator}
use Rattle.mj_tree.specs.declared.tree.Operator.TheVariants.{And, Less, Plus, Minus, Times}
use Rattle.mj_expressions.specs.Tokens.{same_terminal, is_terminal, name_of, value_of, kind_at, has, name_at, value_at, says}
use Rattle.mj_tree.specs.Trees.{Expression, Expressions, Binary, Index, Length, Call, Literal, Boolean, Named, This, NewArray, NewObject, Not, Parenthesized, none, more}
use Rattle.mj_expressions.specs.Expressions.{tier_of, terminal_of, size, sizes, sizes_more, height, heights, IsExp, AreArguments, AreMore}
use Rattle.mj_expressions.specs.ExpressionReading.{Reading, TierParser, operator_at, takes_index, new_at, terminal_at, prim_of, prim_at, index_at, member_at, post_at, tier_at, exp_at}
use Rattle.mj_expressions.proofs.Loops.{ChainLeads, PostLeads, chain_ends, chain_goes_on, post_ends, index_goes_on, member_goes_on}
use Rattle.mj_expressions.specs.Steps.{items_from, behind_comma, at_comma, listed_at}
use Rattle.mj_expressions.proofs.Lists.{exps_list, list_exps}
use Rattle.mj_expressions.proofs.Marks.{says_name, has_other, has_named, has_valued, has_within, IsCloser, Stops, stops_closer, at_is, stops_operator}
use Rattle.mj_expressions.proofs.Stands.{has_is}

-- ---- what begins an expression

-- the mark begins no primary
pub record BeginsNone (n : Terminal) : Type 0 where
  pub is_true : same_terminal terminals.True n ≡ false
  pub is_false : same_terminal terminals.False n ≡ false
  pub is_this : same_terminal terminals.This n ≡ false
  pub is_new : same_terminal terminals.New n ≡ false
  pub is_paren : same_terminal terminals.LeftParenthesis n ≡ false

begins : (ts : List Token) (n : Terminal) → BeginsNone n → (e : Expression) (d i : ℕ) → (0 < d → same_terminal terminals.Not n ≡ false) → IsExp ts d i e → has ts i n ≡ false
begins ts n b (Binary o m l r) d i neg h = begins ts n b l _ i (λ _. neg (let lt = h.0 in omega arith)) h.1
begins ts n b (Index m a x) d i neg h = begins ts n b a 0 i (λ lt. absurd (omega arith)) h.0
begins ts n b (Length m a) d i neg h = begins ts n b a 0 i (λ lt. absurd (omega arith)) h.0
begins ts n b (Call m e name gs) d i neg h = begins ts n b e 0 i (λ lt. absurd (omega arith)) h.0
begins ts n b (Literal m v) d i neg h = has_valued ts i n v h.1
begins ts n b (Boolean m true) d i neg h = has_other ts i terminals.True n (has_is _ _ _ h.1) b.is_true
begins ts n b (Boolean m false) d i neg h = has_other ts i terminals.False n (has_is _ _ _ h.1) b.is_false
begins ts n b (Named m name) d i neg h = has_named ts i n name h.1
begins ts n b (This m) d i neg h = has_other ts i terminals.This n (has_is _ _ _ h.1) b.is_this
begins ts n b (NewArray m s) d i neg h = has_other ts i terminals.New n (has_is _ _ _ h.1) b.is_new
begins ts n b (NewObject m c) d i neg h = has_other ts i terminals.New n (has_is _ _ _ h.1) b.is_new
begins ts n b (Not m e) d i neg h = has_other ts i terminals.Not n (has_is _ _ _ h.2) (neg h.0)
begins ts n b (Parenthesized m e) d i neg h = has_other ts i terminals.LeftParenthesis n (has_is _ _ _ h.1) b.is_paren

pub height_some : (e : Expression) → 0 < height e
height_some (Binary o m l r) = omega arith
height_some (Index m a x) = omega arith
height_some (Length m a) = omega arith
height_some (Call m e name gs) = omega arith
height_some (Literal m v) = omega arith
height_some (Boolean m v) = omega arith
height_some (Named m name) = omega arith
height_some (This m) = omega arith
height_some (NewArray m s) = omega arith
height_some (NewObject m c) = omega arith
height_some (Not m e) = omega arith
height_some (Parenthesized m e) = omega arith

pub closer_paren : IsCloser terminals.RightParenthesis
closer_paren = record { bracket = refl; dot = refl; paren = refl; and = refl; less = refl; plus = refl; minus = refl; star = refl }

pub closer_bracket : IsCloser terminals.RightBracket
closer_bracket = record { bracket = refl; dot = refl; paren = refl; and = refl; less = refl; plus = refl; minus = refl; star = refl }

pub closer_semicolon : IsCloser terminals.Semicolon
closer_semicolon = record { bracket = refl; dot = refl; paren = refl; and = refl; less = refl; plus = refl; minus = refl; star = refl }

closer_comma : IsCloser terminals.Comma
closer_comma = record { bracket = refl; dot = refl; paren = refl; and = refl; less = refl; plus = refl; minus = refl; star = refl }

-- ---- the kind at a place

kind_named : (k : Option TokenKind) (name : List ℕ) → name_of k ≡ Some name → k ≡ Some (kinds.Identifier name)
kind_named None name h = absurd cc
kind_named (Some (kinds.Identifier x)) name h = cc
kind_named (Some (kinds.Literal v)) name h = absurd cc
kind_named (Some (kinds.Terminal o)) name h = absurd cc

kind_valued : (k : Option TokenKind) (v : ℕ) → value_of k ≡ Some v → k ≡ Some (kinds.Literal v)
kind_valued None v h = absurd cc
kind_valued (Some (kinds.Identifier x)) v h = absurd cc
kind_valued (Some (kinds.Literal w)) v h = cc
kind_valued (Some (kinds.Terminal o)) v h = absurd cc

kind_fixed : (m : Terminal) → ((o : Terminal) → same_terminal m o ≡ true → o ≡ m) → (k : Option TokenKind) → is_terminal m k ≡ true → k ≡ Some (kinds.Terminal m)
kind_fixed m only None h = absurd cc
kind_fixed m only (Some (kinds.Identifier x)) h = absurd cc
kind_fixed m only (Some (kinds.Literal w)) h = absurd cc
kind_fixed m only (Some (kinds.Terminal o)) h = ap (λ (x : Terminal). Some (kinds.Terminal x)) (only o h)

only_true : (o : Terminal) → same_terminal terminals.True o ≡ true → o ≡ terminals.True
only_true terminals.True h = refl
only_true _ h = absurd cc

only_false : (o : Terminal) → same_terminal terminals.False o ≡ true → o ≡ terminals.False
only_false terminals.False h = refl
only_false _ h = absurd cc

only_this : (o : Terminal) → same_terminal terminals.This o ≡ true → o ≡ terminals.This
only_this terminals.This h = refl
only_this _ h = absurd cc

only_new : (o : Terminal) → same_terminal terminals.New o ≡ true → o ≡ terminals.New
only_new terminals.New h = refl
only_new _ h = absurd cc

only_paren : (o : Terminal) → same_terminal terminals.LeftParenthesis o ≡ true → o ≡ terminals.LeftParenthesis
only_paren terminals.LeftParenthesis h = refl
only_paren _ h = absurd cc

module _ (part : TierParser) (ts : List Token) (room : ℕ) (reads : (d i j : ℕ) (e : Expression) → IsExp ts d i e → height e ≤ room → j ≡ i + size e → j ≤ length ts → Stops ts d j → part d i ≡ Some (e, j)) where
  -- ---- arguments

  stops_more : (gs : Expressions) (k j : ℕ) → AreMore ts k gs → j ≡ k + sizes_more gs → has ts j terminals.RightParenthesis ≡ true → Stops ts 5 k
  stops_more none k j h at e = let same : j ≡ k = omega arith in stops_closer ts 5 k terminals.RightParenthesis (rw (← same) e) closer_paren
  stops_more (more f fs) k j h at e = stops_closer ts 5 k terminals.Comma (has_is _ _ _ h.0) closer_comma

  more_again : (gs : Expressions) (gas k j : ℕ) → AreMore ts k gs → heights gs ≤ room → j ≡ k + sizes_more gs → has ts j terminals.RightParenthesis ≡ true → length ts < gas + k → items_from gas (behind_comma (part 5)) (at_comma ts) k ≡ Some (exps_list gs, j)
  unfolding items_from
  more_again gs zero k j h fits at e enough = let w = has_within ts j terminals.RightParenthesis e in absurd (omega arith)
  more_again none (suc gas) k j h fits at e enough =
      let same : k ≡ j = omega arith in
      rw (items_from, same, has_other ts j terminals.RightParenthesis terminals.Comma e refl) refl
  more_again (more f fs) (suc gas) k j h fits at e enough =
      let w = has_within ts j terminals.RightParenthesis e in
      let r = reads 5 (k + 1) (k + 1 + size f) f h.1 (omega arith) refl (omega arith) (stops_more fs (k + 1 + size f) j h.2 (omega arith) e) in
      rw (items_from, (has_is _ _ _ h.0), r, more_again fs gas (k + 1 + size f) j h.2 (omega arith) (omega arith) e (omega arith)) refl

  args_again : (gs : Expressions) (i j : ℕ) → AreArguments ts i gs → heights gs ≤ room → j ≡ i + sizes gs → has ts j terminals.RightParenthesis ≡ true → listed_at (part 5) ts i ≡ Some (exps_list gs, j + 1)
  unfolding listed_at
  args_again none i j h fits at e = let same : i ≡ j = omega arith in rw (listed_at, same, e) refl
  args_again (more f fs) i j h fits at e =
      let n : has ts i terminals.RightParenthesis ≡ false = begins ts terminals.RightParenthesis (record { is_true = refl; is_false = refl; is_this = refl; is_new = refl; is_paren = refl }) f 5 i (λ _. refl) h.0 in
      let w = has_within ts j terminals.RightParenthesis e in
      let r = reads 5 i (i + size f) f h.0 (omega arith) refl (omega arith) (stops_more fs (i + size f) j h.1 (omega arith) e) in
      rw (listed_at, n, r, more_again fs (suc (length ts)) (i + size f) j h.1 (omega arith) (omega arith) e (omega arith), e) refl

  -- ---- primaries

  prim_named : (i : ℕ) (name : List ℕ) → name_at ts i ≡ Some name → prim_at part ts i ≡ Some (Named i name, i + 1)
  unfolding prim_at name_at
  prim_named i name h = ap (prim_of part ts i) (kind_named (kind_at ts i) name h)

  prim_valued : (i v : ℕ) → value_at ts i ≡ Some v → prim_at part ts i ≡ Some (Literal i v, i + 1)
  unfolding prim_at value_at
  prim_valued i v h = ap (prim_of part ts i) (kind_valued (kind_at ts i) v h)

  prim_fixed : (i : ℕ) (m : Terminal) → ((o : Terminal) → same_terminal m o ≡ true → o ≡ m) → has ts i m ≡ true → prim_at part ts i ≡ terminal_at part ts i m
  unfolding prim_at has
  prim_fixed i m only h = ap (prim_of part ts i) (kind_fixed m only (kind_at ts i) h)

  terminal_true : (i : ℕ) → terminal_at part ts i terminals.True ≡ Some (Boolean i true, i + 1)
  unfolding terminal_at
  terminal_true i = refl

  terminal_false : (i : ℕ) → terminal_at part ts i terminals.False ≡ Some (Boolean i false, i + 1)
  unfolding terminal_at
  terminal_false i = refl

  terminal_this : (i : ℕ) → terminal_at part ts i terminals.This ≡ Some (This i, i + 1)
  unfolding terminal_at
  terminal_this i = refl

  terminal_paren : (i k : ℕ) (e : Expression) → part 5 (i + 1) ≡ Some (e, k) → has ts k terminals.RightParenthesis ≡ true → terminal_at part ts i terminals.LeftParenthesis ≡ Some (Parenthesized i e, k + 1)
  unfolding terminal_at
  terminal_paren i k e r h = rw (terminal_at, r, h) refl

  terminal_array : (i k : ℕ) (e : Expression) → has ts (i + 1) terminals.Int ≡ true → has ts (i + 2) terminals.LeftBracket ≡ true → part 5 (i + 3) ≡ Some (e, k) → has ts k terminals.RightBracket ≡ true → terminal_at part ts i terminals.New ≡ Some (NewArray i e, k + 1)
  unfolding terminal_at new_at
  terminal_array i k e a b r h = rw (terminal_at, new_at, a, b, r, h) refl

  terminal_object : (i : ℕ) (name : List ℕ) → name_at ts (i + 1) ≡ Some name → has ts (i + 2) terminals.LeftParenthesis ≡ true → has ts (i + 3) terminals.RightParenthesis ≡ true → terminal_at part ts i terminals.New ≡ Some (NewObject i name, i + 4)
  unfolding terminal_at new_at
  terminal_object i name a b h = rw (terminal_at, new_at, has_named ts (i + 1) terminals.Int name a, a, b, h) refl

  -- ---- what follows a primary

  prim_then : (e : Expression) (i j : ℕ) (total : Reading) → prim_at part ts i ≡ Some (e, j) → PostLeads part ts room e j total → post_at part ts room i ≡ total
  unfolding post_at
  prim_then e i j total p leads = rw (post_at, p) (leads (suc (length ts)) (omega arith))

  index_again : (m j : ℕ) (a x : Expression) → IsExp ts 5 (m + 1) x → height x ≤ room → has ts (m + 1 + size x) terminals.RightBracket ≡ true → j ≡ m + 1 + size x + 1 → index_at part ts a m ≡ Some (Index m a x, j)
  unfolding index_at
  index_again m j a x h fits e at = let w = has_within ts (m + 1 + size x) terminals.RightBracket e in rw (index_at, at, reads 5 (m + 1) (m + 1 + size x) x h fits refl (omega arith) (stops_closer ts 5 (m + 1 + size x) terminals.RightBracket e closer_bracket), e) refl

  length_again : (m j : ℕ) (a : Expression) → says ts m (codes "length") ≡ true → has ts (m + 1) terminals.LeftParenthesis ≡ false → j ≡ m + 1 → member_at part ts a m ≡ Some (Length m a, j)
  unfolding member_at
  length_again m j a n p at = rw (member_at, at, says_name ts m (codes "length") n, p, n) refl

  call_again : (m j : ℕ) (e : Expression) (name : List ℕ) (gs : Expressions) → name_at ts m ≡ Some name → has ts (m + 1) terminals.LeftParenthesis ≡ true → AreArguments ts (m + 2) gs → heights gs ≤ room → has ts (m + 2 + sizes gs) terminals.RightParenthesis ≡ true → j ≡ m + 2 + sizes gs + 1
      → member_at part ts e m ≡ Some (Call m e name gs, j)
  unfolding member_at
  call_again m j e name gs n p h fits close at = rw (member_at, at, n, p, args_again gs (m + 2) (m + 2 + sizes gs) h fits refl close, list_exps gs) refl

  post_chain : (e : Expression) (i j : ℕ) (total : Reading) → IsExp ts 0 i e → height e ≤ suc room → j ≡ i + size e → has ts j terminals.LeftParenthesis ≡ false → PostLeads part ts room e j total → post_at part ts room i ≡ total
  post_chain (Binary o m l r) i j total h fits at np leads = let lt = h.0 in absurd (omega arith)
  post_chain (Index m a x) i j total h fits at np leads =
      let w = has_within ts m terminals.LeftBracket (has_is _ _ _ h.3) in
      let takes : takes_index ts a m ≡ true = rw ((has_is _ _ _ h.3), h.1) refl in
      let m-is = h.2 in
      post_chain a i m total h.0 (omega arith) h.2 (has_other ts m terminals.LeftBracket terminals.LeftParenthesis (has_is _ _ _ h.3) refl)
      (index_goes_on part ts room a m (omega arith) (Index m a x) j total takes (omega arith) (index_again m j a x h.4 (omega arith) (has_is _ _ _ h.5) (omega arith)) (omega arith) leads)
  post_chain (Length m a) i j total h fits at np leads =
      let w = has_within ts (i + size a) terminals.Dot (has_is _ _ _ h.2) in
      let takes : takes_index ts a (i + size a) ≡ false = rw (has_other ts (i + size a) terminals.Dot terminals.LeftBracket (has_is _ _ _ h.2) refl) refl in
      let m-is = h.1 in
      let j-is : j ≡ m + 1 = omega arith in
      post_chain a i (i + size a) total h.0 (omega arith) refl (has_other ts (i + size a) terminals.Dot terminals.LeftParenthesis (has_is _ _ _ h.2) refl)
      (member_goes_on part ts room a (i + size a) (omega arith) (Length m a) j total takes (has_is _ _ _ h.2) (omega arith) (rw (← h.1) (length_again m j a h.3 (rw (← j-is) np) j-is)) (omega arith) leads)
  post_chain (Call m e name gs) i j total h fits at np leads =
      let w = has_within ts (i + size e) terminals.Dot (has_is _ _ _ h.2) in
      let takes : takes_index ts e (i + size e) ≡ false = rw (has_other ts (i + size e) terminals.Dot terminals.LeftBracket (has_is _ _ _ h.2) refl) refl in
      let m-is = h.1 in
      post_chain e i (i + size e) total h.0 (omega arith) refl (has_other ts (i + size e) terminals.Dot terminals.LeftParenthesis (has_is _ _ _ h.2) refl)
      (member_goes_on part ts room e (i + size e) (omega arith) (Call m e name gs) j total takes (has_is _ _ _ h.2) (omega arith) (rw (← h.1) (call_again m j e name gs h.3 (has_is _ _ _ h.4) h.5 (omega arith) (has_is _ _ _ h.6) (omega arith))) (omega arith) leads)
  post_chain (Literal m v) i j total h fits at np leads = prim_then _ i j total (rw (h.0, at) (prim_valued i v h.1)) leads
  post_chain (Boolean m true) i j total h fits at np leads = prim_then _ i j total (rw (h.0, at) (prim_fixed i terminals.True only_true (has_is _ _ _ h.1) ∙ terminal_true i)) leads
  post_chain (Boolean m false) i j total h fits at np leads = prim_then _ i j total (rw (h.0, at) (prim_fixed i terminals.False only_false (has_is _ _ _ h.1) ∙ terminal_false i)) leads
  post_chain (Named m name) i j total h fits at np leads = prim_then _ i j total (rw (h.0, at) (prim_named i name h.1)) leads
  post_chain (This m) i j total h fits at np leads = prim_then _ i j total (rw (h.0, at) (prim_fixed i terminals.This only_this (has_is _ _ _ h.1) ∙ terminal_this i)) leads
  post_chain (NewArray m s) i j total h fits at np leads =
      let j-is : j ≡ i + 3 + size s + 1 = omega arith in
      let w = has_within ts (i + 3 + size s) terminals.RightBracket (has_is _ _ _ h.5) in
      prim_then _ i j total (rw (h.0, j-is) (prim_fixed i terminals.New only_new (has_is _ _ _ h.1) ∙ terminal_array i (i + 3 + size s) s (has_is _ _ _ h.2) (has_is _ _ _ h.3) (reads 5 (i + 3) (i + 3 + size s) s h.4 (omega arith) refl (omega arith) (stops_closer ts 5 (i + 3 + size s) terminals.RightBracket (has_is _ _ _ h.5) closer_bracket)) (has_is _ _ _ h.5))) leads
  post_chain (NewObject m c) i j total h fits at np leads = prim_then _ i j total (rw (h.0, at) (prim_fixed i terminals.New only_new (has_is _ _ _ h.1) ∙ terminal_object i c h.2 (has_is _ _ _ h.3) (has_is _ _ _ h.4))) leads
  post_chain (Not m e) i j total h fits at np leads = let lt = h.0 in absurd (omega arith)
  post_chain (Parenthesized m e) i j total h fits at np leads =
      let j-is : j ≡ i + 1 + size e + 1 = omega arith in
      let w = has_within ts (i + 1 + size e) terminals.RightParenthesis (has_is _ _ _ h.3) in
      prim_then _ i j total (rw (h.0, j-is) (prim_fixed i terminals.LeftParenthesis only_paren (has_is _ _ _ h.1) ∙ terminal_paren i (i + 1 + size e) e (reads 5 (i + 1) (i + 1 + size e) e h.2 (omega arith) refl (omega arith) (stops_closer ts 5 (i + 1 + size e) terminals.RightParenthesis (has_is _ _ _ h.3) closer_paren)) (has_is _ _ _ h.3))) leads

  -- ---- tiers

  abbrev Claim : ℕ → Type 0
  Claim d = (e : Expression) (i j : ℕ) → IsExp ts d i e → height e ≤ suc room → j ≡ i + size e → j ≤ length ts → Stops ts d j → tier_at part ts room d i ≡ Some (e, j)

  tier_zero : Claim zero
  unfolding tier_at
  tier_zero e i j h fits at w s = post_chain e i j (Some (e, j)) h fits at s.paren (post_ends part ts room e j w (rw s.bracket refl) s.dot)

  unary_post : (e : Expression) (i j : ℕ) → IsExp ts 0 i e → height e ≤ suc room → j ≡ i + size e → j ≤ length ts → Stops ts 1 j → tier_at part ts room 1 i ≡ Some (e, j)
  unfolding tier_at
  unary_post e i j h fits at w s =
      let n : has ts i terminals.Not ≡ false = begins ts terminals.Not (record { is_true = refl; is_false = refl; is_this = refl; is_new = refl; is_paren = refl }) e 0 i (λ lt. absurd (omega arith)) h in
      rw (tier_at, n) (post_chain e i j (Some (e, j)) h fits at s.paren (post_ends part ts room e j w (rw s.bracket refl) s.dot))

  tier_one : Claim (suc zero)
  unfolding tier_at
  tier_one (Not m e) i j h fits at w s =
      let j-is : j ≡ i + 1 + size e = omega arith in
      rw (tier_at, (has_is _ _ _ h.2), reads 1 (i + 1) j e h.3 (omega arith) j-is w s, h.1) refl
  tier_one (Binary o m l r) i j h fits at w s = let lt = h.0 in absurd (below_some o (omega arith))
    where
      below_some : (o : Operator) → tier_of o ≡ 0 → ⊥
      below_some And e = absurd (omega arith)
      below_some Less e = absurd (omega arith)
      below_some Plus e = absurd (omega arith)
      below_some Minus e = absurd (omega arith)
      below_some Times e = absurd (omega arith)
  tier_one (Index m a x) i j h fits at w s = unary_post (Index m a x) i j h fits at w s
  tier_one (Length m a) i j h fits at w s = unary_post (Length m a) i j h fits at w s
  tier_one (Call m e name gs) i j h fits at w s = unary_post (Call m e name gs) i j h fits at w s
  tier_one (Literal m v) i j h fits at w s = unary_post (Literal m v) i j h fits at w s
  tier_one (Boolean m v) i j h fits at w s = unary_post (Boolean m v) i j h fits at w s
  tier_one (Named m name) i j h fits at w s = unary_post (Named m name) i j h fits at w s
  tier_one (This m) i j h fits at w s = unary_post (This m) i j h fits at w s
  tier_one (NewArray m x) i j h fits at w s = unary_post (NewArray m x) i j h fits at w s
  tier_one (NewObject m c) i j h fits at w s = unary_post (NewObject m c) i j h fits at w s
  tier_one (Parenthesized m e) i j h fits at w s = unary_post (Parenthesized m e) i j h fits at w s

  module _ (d : ℕ) (lower : Claim (suc d)) where
    -- what a lower tier reads is the first operand
    lower_then : (e : Expression) (i j : ℕ) (total : Reading) → IsExp ts (suc d) i e → height e ≤ suc room → j ≡ i + size e → j ≤ length ts → Stops ts (suc d) j → ChainLeads part ts room (suc d) e j total → tier_at part ts room (suc (suc d)) i ≡ total
    unfolding tier_at
    lower_then e i j total h fits at w s leads = rw (tier_at, lower e i j h fits at w s) (leads (suc (length ts)) (omega arith))

    climb : (e : Expression) (i j : ℕ) (total : Reading) → IsExp ts (suc (suc d)) i e → height e ≤ suc room → j ≡ i + size e → j ≤ length ts → Stops ts (suc d) j → ChainLeads part ts room (suc d) e j total → tier_at part ts room (suc (suc d)) i ≡ total
    climb (Binary o m l r) i j total h fits at w s leads =
        elim (cases_lt (tier_of o) (suc d)) [
          | inl lt ↦ lower_then (Binary o m l r) i j total (lt, h.1, h.2, h.3, h.4) fits at w s leads
          | inr ge ↦
              let lt = h.0 in
              let same : tier_of o ≡ suc d = omega arith in
              let m-is = h.2 in
              let here = has_within ts m (terminal_of o) (has_is _ _ _ h.3) in
              climb l i m total (subst (λ (k : ℕ). IsExp ts (suc k) i l) same h.1) (omega arith) h.2 (omega arith) (subst (λ (k : ℕ). Stops ts k m) same (stops_operator ts m o (has_is _ _ _ h.3)))
              (chain_goes_on part ts room (suc d) l m (omega arith) o r j total (subst (λ (k : ℕ). operator_at ts m k ≡ Some o) same (at_is ts m o (has_is _ _ _ h.3))) (omega arith)
              (reads (suc d) (m + 1) j r (subst (λ (k : ℕ). IsExp ts k (m + 1) r) same h.4) (omega arith) (omega arith) w s) (omega arith) leads)
        ]
    climb (Not m e) i j total h fits at w s leads = lower_then (Not m e) i j total (omega arith, h.1, h.2, h.3) fits at w s leads
    climb (Index m a x) i j total h fits at w s leads = lower_then (Index m a x) i j total h fits at w s leads
    climb (Length m a) i j total h fits at w s leads = lower_then (Length m a) i j total h fits at w s leads
    climb (Call m e name gs) i j total h fits at w s leads = lower_then (Call m e name gs) i j total h fits at w s leads
    climb (Literal m v) i j total h fits at w s leads = lower_then (Literal m v) i j total h fits at w s leads
    climb (Boolean m v) i j total h fits at w s leads = lower_then (Boolean m v) i j total h fits at w s leads
    climb (Named m name) i j total h fits at w s leads = lower_then (Named m name) i j total h fits at w s leads
    climb (This m) i j total h fits at w s leads = lower_then (This m) i j total h fits at w s leads
    climb (NewArray m x) i j total h fits at w s leads = lower_then (NewArray m x) i j total h fits at w s leads
    climb (NewObject m c) i j total h fits at w s leads = lower_then (NewObject m c) i j total h fits at w s leads
    climb (Parenthesized m e) i j total h fits at w s leads = lower_then (Parenthesized m e) i j total h fits at w s leads

  stops_lower : (d j : ℕ) → Stops ts (suc d) j → Stops ts d j
  stops_lower d j s = record { bracket = s.bracket; dot = s.dot; paren = s.paren; operator = λ k lt. s.operator k (omega arith) }

  pub tiers : (d : ℕ) → Claim d
  tiers zero = tier_zero
  tiers (suc zero) = tier_one
  tiers (suc (suc d)) = λ e i j h fits at w s. climb d (tiers (suc d)) e i j (Some (e, j)) h fits at w (stops_lower (suc d) j s) (chain_ends part ts room (suc d) e j w (s.operator (suc d) (omega arith)))

pub exp_again : (ts : List Token) (room d i j : ℕ) (e : Expression) → IsExp ts d i e → height e ≤ room → j ≡ i + size e → j ≤ length ts → Stops ts d j → exp_at room ts d i ≡ Some (e, j)
unfolding exp_at
exp_again ts zero d i j e h fits at w s = let n = height_some e in absurd (omega arith)
exp_again ts (suc room) d i j e h fits at w s = tiers (exp_at room ts) ts room (exp_again ts room) d e i j h fits at w s
