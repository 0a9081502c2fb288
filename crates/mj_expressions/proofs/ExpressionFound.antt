-- What is read as an expression is that expression by the grammar.
use Rattle.std.proofs.Common.{◌≡◌, ℕ, zero, suc, ◌+◌, ◌≤◌, true, not, ◌&&◌, eqb, leb, List, length, Option, Some, None, refl, sym, ap, subst, arith, inl, inr}
use Rattle.std.specs.Prelude.{codes}
use Rattle.std.proofs.lemmas.Bool.{eqb-true, leb-true, and_parts, not-true}
use Rattle.mj_lexer.specs.declared.token.Terminal.{Terminal}
use Rattle.mj_lexer.specs.declared.token.Token.{Token}
use Rattle.mj_lexer.specs.declared.token.Terminal.TheVariants as terminals
use Rattle.mj_lexer.specs.declared.token.TokenKind.{TokenKind}
use Rattle.mj_lexer.specs.declared.token.TokenKind.TheVariants as kinds
use Rattle.mj_tree.specs.declared.tree.Operator.{Operator}
use Rattle.mj_expressions.specs.Tokens.{Stands, name_of, value_of, kind_at, has, name_at, value_at, says}
use Rattle.mj_tree.specs.Trees.{Expression, Binary, Index, Length, Call, Literal, Boolean, Named, This, NewArray, NewObject, Not, Parenthesized}
use Rattle.mj_expressions.specs.Expressions.{tier_of, terminal_of, size, sizes, sizes_more, height, heights, is_new_array, IsExp, AreArguments, AreMore}
use Rattle.mj_tree.specs.Views.{expressions_of}
use Rattle.mj_expressions.specs.Steps.{◌>>=◌, items_from, behind_comma, at_comma, listed_at}
use Rattle.mj_expressions.proofs.Binds.{bind_some, when_some, if_some, some_or_none, some_is}
use Rattle.mj_expressions.specs.ExpressionReading.{TierParser, close, operator_here, of_tier, operator_at, takes_index, new_at, terminal_at, prim_of, prim_at, index_at, member_at, post_from, post_at, binary_from, tier_at, exp_at}
use Rattle.mj_expressions.proofs.Stands.{stands, when_stands, if_stands, both_stand}

-- a tree that was read up to a place
pub record Sound (ts : List Token) (d i room : ℕ) (x : Expression × ℕ) : Type 0 where
  pub is : IsExp ts d i x.0
  pub at : x.1 ≡ i + size x.0
  pub low : height x.0 ≤ room

weaker : (ts : List Token) (d c i : ℕ) (e : Expression) → d ≤ c → IsExp ts d i e → IsExp ts c i e
weaker ts d c i (Binary o m l r) le h = let lt = h.0 in (omega arith, h.1, h.2, h.3, h.4)
weaker ts d c i (Index m a x) le h = h
weaker ts d c i (Length m a) le h = h
weaker ts d c i (Call m e name gs) le h = h
weaker ts d c i (Literal m v) le h = h
weaker ts d c i (Boolean m v) le h = h
weaker ts d c i (Named m name) le h = h
weaker ts d c i (This m) le h = h
weaker ts d c i (NewArray m s) le h = h
weaker ts d c i (NewObject m n) le h = h
weaker ts d c i (Not m e) le h = let lt = h.0 in (omega arith, h.1, h.2, h.3)
weaker ts d c i (Parenthesized m e) le h = h

-- ---- operators

here_marks : (ts : List Token) (j : ℕ) (o : Operator) → operator_here ts j ≡ Some o → Stands ts j (terminal_of o)
unfolding operator_here
here_marks ts j o e =
    elim (if_stands ts j terminals.And _ _ o e) [
      | inl a ↦ rw (← some_is _ _ a.1) a.0
      | inr a ↦ elim (if_stands ts j terminals.Less _ _ o a.1) [
        | inl b ↦ rw (← some_is _ _ b.1) b.0
        | inr b ↦ elim (if_stands ts j terminals.Plus _ _ o b.1) [
          | inl c ↦ rw (← some_is _ _ c.1) c.0
          | inr c ↦ elim (if_stands ts j terminals.Minus _ _ o c.1) [
            | inl f ↦ rw (← some_is _ _ f.1) f.0
            | inr f ↦ elim (if_stands ts j terminals.Times _ _ o f.1) [
              | inl g ↦ rw (← some_is _ _ g.1) g.0
              | inr g ↦ absurd (let n = g.1 in cc)
            ]
          ]
        ]
      ]
    ]

tier_marks : (d : ℕ) (p : Option Operator) (o : Operator) → of_tier d p ≡ Some o → (p ≡ Some o) × (tier_of o ≡ d)
tier_marks d None o e = absurd cc
tier_marks d (Some q) o e =
    elim (if_some (eqb (tier_of q) d) _ _ o e) [
      | inl a ↦ (a.1, rw (← some_is _ _ a.1) (eqb-true (tier_of q) d a.0))
      | inr a ↦ absurd (let n = a.1 in cc)
    ]

module _ (part : TierParser) (ts : List Token) (room : ℕ) (sound : (d i : ℕ) (x : Expression × ℕ) → part d i ≡ Some x → Sound ts d i room x) where
  -- ---- arguments

  pub record MoreSound (k : ℕ) (x : List Expression × ℕ) : Type 0 where
    pub are : AreMore ts k (expressions_of x.0)
    pub at : x.1 ≡ k + sizes_more (expressions_of x.0)
    pub low : heights (expressions_of x.0) ≤ room

  more_found : (gas k : ℕ) (x : List Expression × ℕ) → items_from gas (behind_comma (part 5)) (at_comma ts) k ≡ Some x → MoreSound k x
  unfolding items_from
  more_found zero k x e = absurd cc
  more_found (suc gas) k x e =
      elim (if_stands ts k terminals.Comma _ _ x e) [
        | inl a ↦
            let b = bind_some (part 5 (k + 1)) _ x a.1 in
            let c = bind_some (items_from gas (behind_comma (part 5)) (at_comma ts) b.0.1) _ x b.2 in
            let s = sound 5 (k + 1) b.0 b.1 in
            let t = more_found gas b.0.1 c.0 c.1 in
            let place = s.at in
            let low = s.low in
            let low2 = t.low in
            let at2 = t.at in
            subst (MoreSound k) (some_is _ x c.2) (record {
              are = (a.0, s.is, subst (λ (i : ℕ). AreMore ts i (expressions_of c.0.0)) s.at t.are);
              at = omega arith;
              low = omega arith;
            })
        | inr a ↦ subst (MoreSound k) (some_is _ x a.1) (record { are = tt; at = omega arith; low = omega arith })
      ]

  pub record ArgsSound (i : ℕ) (x : List Expression × ℕ) : Type 0 where
    pub are : AreArguments ts i (expressions_of x.0)
    pub at : x.1 ≡ i + sizes (expressions_of x.0) + 1
    pub low : heights (expressions_of x.0) ≤ room
    pub close : Stands ts (i + sizes (expressions_of x.0)) terminals.RightParenthesis

  args_found : (i : ℕ) (x : List Expression × ℕ) → listed_at (part 5) ts i ≡ Some x → ArgsSound i x
  unfolding listed_at
  args_found i x e =
      elim (if_stands ts i terminals.RightParenthesis _ _ x e) [
        | inl a ↦
            let same : i + 0 ≡ i = omega arith in
            subst (ArgsSound i) (some_is _ x a.1) (record { are = tt; at = omega arith; low = omega arith; close = rw same a.0 })
        | inr a ↦
            let b = bind_some (part 5 i) _ x a.1 in
            let c = bind_some (items_from (suc (length ts)) (behind_comma (part 5)) (at_comma ts) b.0.1) _ x b.2 in
            let f = when_stands ts c.0.1 terminals.RightParenthesis _ x c.2 in
            let s = sound 5 i b.0 b.1 in
            let t = more_found (suc (length ts)) b.0.1 c.0 c.1 in
            let place = s.at in
            let low = s.low in
            let low2 = t.low in
            let at2 = t.at in
            let closes : i + (size b.0.0 + sizes_more (expressions_of c.0.0)) ≡ c.0.1 = omega arith in
            subst (ArgsSound i) (some_is _ x f.1) (record {
              are = (s.is, subst (λ (k : ℕ). AreMore ts k (expressions_of c.0.0)) s.at t.are);
              at = omega arith;
              low = omega arith;
              close = rw closes f.0;
            })
      ]

  -- ---- primaries

  Primary : ℕ → Expression × ℕ → Type 0
  Primary i x = Sound ts 0 i (suc room) x

  named : (i : ℕ) (name : List ℕ) → kind_at ts i ≡ Some (kinds.Identifier name) → name_at ts i ≡ Some name
  unfolding name_at
  named i name e = ap name_of e

  valued : (i v : ℕ) → kind_at ts i ≡ Some (kinds.Literal v) → value_at ts i ≡ Some v
  unfolding value_at
  valued i v e = ap value_of e

  marked : (i : ℕ) (m : Terminal) → kind_at ts i ≡ Some (kinds.Terminal m) → Stands ts i m
  unfolding Stands
  marked i m e = e

  new_found : (i : ℕ) (x : Expression × ℕ) → Stands ts i terminals.New → new_at part ts i ≡ Some x → Primary i x
  unfolding new_at Primary
  new_found i x h e =
      elim (if_stands ts (i + 1) terminals.Int _ _ x e) [
        | inl a ↦
            let b = when_stands ts (i + 2) terminals.LeftBracket _ x a.1 in
            let c = bind_some (part 5 (i + 3)) _ x b.1 in
            let s = sound 5 (i + 3) c.0 c.1 in
            let d = when_stands ts c.0.1 terminals.RightBracket _ x c.2 in
            let place = s.at in
            let low = s.low in
            subst (Sound ts 0 i (suc room)) (some_is _ x d.1) (record {
              is = (refl, h, a.0, b.0, s.is, rw (← s.at) d.0);
              at = omega arith;
              low = omega arith;
            })
        | inr a ↦
            let b = bind_some (name_at ts (i + 1)) _ x a.1 in
            let c = when_some (has ts (i + 2) terminals.LeftParenthesis && has ts (i + 3) terminals.RightParenthesis) _ x b.2 in
            let both = both_stand ts (i + 2) terminals.LeftParenthesis (i + 3) terminals.RightParenthesis c.0 in
            subst (Sound ts 0 i (suc room)) (some_is _ x c.1) (record { is = (refl, h, b.1, both.0, both.1); at = refl; low = omega arith })
      ]

  paren_found : (i : ℕ) (x : Expression × ℕ) → Stands ts i terminals.LeftParenthesis → (part 5 (i + 1) >>= close ts terminals.RightParenthesis (Parenthesized i)) ≡ Some x → Primary i x
  unfolding Primary
  paren_found i x h e =
      let c = bind_some (part 5 (i + 1)) _ x e in
      let s = sound 5 (i + 1) c.0 c.1 in
      let d = when_stands ts c.0.1 terminals.RightParenthesis _ x c.2 in
      let place = s.at in
      let low = s.low in
      subst (Sound ts 0 i (suc room)) (some_is _ x d.1) (record { is = (refl, h, s.is, rw (← s.at) d.0); at = omega arith; low = omega arith })

  terminal_found : (i : ℕ) (m : Terminal) (x : Expression × ℕ) → kind_at ts i ≡ Some (kinds.Terminal m) → terminal_at part ts i m ≡ Some x → Primary i x
  unfolding terminal_at Primary
  terminal_found i terminals.True x k e = subst (Sound ts 0 i (suc room)) (some_is _ x e) (record { is = (refl, marked i terminals.True k); at = refl; low = omega arith })
  terminal_found i terminals.False x k e = subst (Sound ts 0 i (suc room)) (some_is _ x e) (record { is = (refl, marked i terminals.False k); at = refl; low = omega arith })
  terminal_found i terminals.This x k e = subst (Sound ts 0 i (suc room)) (some_is _ x e) (record { is = (refl, marked i terminals.This k); at = refl; low = omega arith })
  terminal_found i terminals.New x k e = new_found i x (marked i terminals.New k) e
  terminal_found i terminals.LeftParenthesis x k e = paren_found i x (marked i terminals.LeftParenthesis k) e
  terminal_found i _ x k e = absurd cc

  prim_of_found : (i : ℕ) (k : Option TokenKind) (x : Expression × ℕ) → kind_at ts i ≡ k → prim_of part ts i k ≡ Some x → Primary i x
  unfolding Primary
  prim_of_found i None x k e = absurd cc
  prim_of_found i (Some (kinds.Identifier name)) x k e = subst (Sound ts 0 i (suc room)) (some_is _ x e) (record { is = (refl, named i name k); at = refl; low = omega arith })
  prim_of_found i (Some (kinds.Literal v)) x k e = subst (Sound ts 0 i (suc room)) (some_is _ x e) (record { is = (refl, valued i v k); at = refl; low = omega arith })
  prim_of_found i (Some (kinds.Terminal m)) x k e = terminal_found i m x k e

  prim_found : (i : ℕ) (x : Expression × ℕ) → prim_at part ts i ≡ Some x → Primary i x
  unfolding prim_at
  prim_found i x e = prim_of_found i (kind_at ts i) x refl e

  -- ---- what follows a primary

  index_found : (i j : ℕ) (a : Expression) (x : Expression × ℕ) → IsExp ts 0 i a → j ≡ i + size a → height a ≤ room → takes_index ts a j ≡ true → index_at part ts a j ≡ Some x → Primary i x
  unfolding index_at Primary
  index_found i j a x h at low t e =
      let both = and_parts (has ts j terminals.LeftBracket) (not (is_new_array a)) t in
      let c = bind_some (part 5 (j + 1)) _ x e in
      let s = sound 5 (j + 1) c.0 c.1 in
      let d = when_stands ts c.0.1 terminals.RightBracket _ x c.2 in
      let place = s.at in
      let low2 = s.low in
      subst (Sound ts 0 i (suc room)) (some_is _ x d.1) (record { is = (h, not-true (is_new_array a) both.1, at, stands ts j terminals.LeftBracket both.0, s.is, rw (← s.at) d.0); at = omega arith; low = omega arith })

  member_found : (i j m : ℕ) (a : Expression) (x : Expression × ℕ) → IsExp ts 0 i a → j ≡ i + size a → m ≡ j + 1 → height a ≤ room → Stands ts j terminals.Dot → member_at part ts a m ≡ Some x → Primary i x
  unfolding member_at Primary
  member_found i j m a x h at m-is low t e =
      let b = bind_some (name_at ts m) _ x e in
      let m-at : m ≡ i + size a + 1 = omega arith in
      let dot : Stands ts (i + size a) terminals.Dot = rw (← at) t in
      elim (if_stands ts (m + 1) terminals.LeftParenthesis _ _ x b.2) [
        | inl c ↦
            let d = bind_some (listed_at (part 5) ts (m + 2)) _ x c.1 in
            let s = args_found (m + 2) d.0 d.1 in
            let place = s.at in
            let low2 = s.low in
            subst (Sound ts 0 i (suc room)) (some_is _ x d.2) (record { is = (h, m-at, dot, b.1, c.0, s.are, s.close); at = omega arith; low = omega arith })
        | inr c ↦
            let d = when_some (says ts m (codes "length")) _ x c.1 in
            subst (Sound ts 0 i (suc room)) (some_is _ x d.1) (record { is = (h, m-at, dot, d.0); at = omega arith; low = omega arith })
      ]

  post_found : (gas i j : ℕ) (left : Expression) (x : Expression × ℕ) → Primary i (left, j) → post_from gas part ts room left j ≡ Some x → Primary i x
  unfolding post_from Primary
  post_found zero i j left x s e = absurd cc
  post_found (suc gas) i j left x s e =
      elim (if_some (takes_index ts left j) _ _ x e) [
        | inl a ↦
            let b = when_some (leb (height left) room) _ x a.1 in
            let c = bind_some (index_at part ts left j) _ x b.1 in
            post_found gas i c.0.1 c.0.0 x (index_found i j left c.0 s.is s.at (leb-true _ _ b.0) a.0 c.1) c.2
        | inr a ↦ elim (if_stands ts j terminals.Dot _ _ x a.1) [
          | inl d ↦
              let b = when_some (leb (height left) room) _ x d.1 in
              let c = bind_some (member_at part ts left (j + 1)) _ x b.1 in
              post_found gas i c.0.1 c.0.0 x (member_found i j (j + 1) left c.0 s.is s.at refl (leb-true _ _ b.0) d.0 c.1) c.2
          | inr d ↦ subst (Sound ts 0 i (suc room)) (some_is _ x d.1) s
        ]
      ]

  post_at_found : (i : ℕ) (x : Expression × ℕ) → post_at part ts room i ≡ Some x → Sound ts 0 i (suc room) x
  unfolding post_at Primary
  post_at_found i x e =
      let c = bind_some (prim_at part ts i) _ x e in
      post_found (suc (length ts)) i c.0.1 c.0.0 x (prim_found i c.0 c.1) c.2

  -- ---- tiers

  binary_found : (gas d i j : ℕ) (left : Expression) (x : Expression × ℕ) → Sound ts (suc d) i (suc room) (left, j) → binary_from gas part ts room d left j ≡ Some x → Sound ts (suc d) i (suc room) x
  unfolding binary_from
  binary_found zero d i j left x s e = absurd cc
  binary_found (suc gas) d i j left x s e =
      elim (some_or_none (operator_at ts j d)) [
        | inl n ↦ let f = rw (binary_from, n) at e in subst (Sound ts (suc d) i (suc room)) (some_is _ x f) s
        | inr q ↦
            let o = q.0 in
            let f = rw (binary_from, q.1) at e in
            let b = when_some (leb (height left) room) _ x f in
            let c = bind_some (part d (j + 1)) _ x b.1 in
            let r = sound d (j + 1) c.0 c.1 in
            let t = tier_marks d (operator_here ts j) o q.1 in
            let low = leb-true _ _ b.0 in
            let at = s.at in
            let at2 = r.at in
            let low2 = r.low in
            let tier_of-is = t.1 in
            binary_found gas d i c.0.1 (Binary o j left c.0.0) x (record {
              is = (omega arith, subst (λ (k : ℕ). IsExp ts (suc k) i left) (sym t.1) s.is, s.at, here_marks ts j o t.0, subst (λ (k : ℕ). IsExp ts k (j + 1) c.0.0) (sym t.1) r.is);
              at = omega arith;
              low = omega arith;
            }) c.2
      ]

  tier_found : (d i : ℕ) (x : Expression × ℕ) → tier_at part ts room d i ≡ Some x → Sound ts d i (suc room) x
  unfolding tier_at
  tier_found zero i x e = post_at_found i x e
  tier_found (suc zero) i x e =
      elim (if_stands ts i terminals.Not _ _ x e) [
        | inl a ↦
            let c = bind_some (part 1 (i + 1)) _ x a.1 in
            let s = sound 1 (i + 1) c.0 c.1 in
            let at = s.at in
            let low = s.low in
            subst (Sound ts 1 i (suc room)) (some_is _ x c.2) (record { is = (omega arith, refl, a.0, s.is); at = omega arith; low = omega arith })
        | inr a ↦ let s = post_at_found i x a.1 in record { is = weaker ts 0 1 i x.0 (omega arith) s.is; at = s.at; low = s.low }
      ]
  tier_found (suc (suc d)) i x e =
      let c = bind_some (tier_at part ts room (suc d) i) _ x e in
      let s = tier_found (suc d) i c.0 c.1 in
      binary_found (suc (length ts)) (suc d) i c.0.1 c.0.0 x (record { is = weaker ts (suc d) (suc (suc d)) i c.0.0 (omega arith) s.is; at = s.at; low = s.low }) c.2

pub exp_found : (ts : List Token) (room d i : ℕ) (x : Expression × ℕ) → exp_at room ts d i ≡ Some x → Sound ts d i room x
unfolding exp_at
exp_found ts zero d i x e = absurd cc
exp_found ts (suc room) d i x e = tier_found (exp_at room ts) ts room (exp_found ts room) d i x e
