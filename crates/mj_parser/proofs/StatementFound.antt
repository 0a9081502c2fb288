-- What is read as a statement is that statement by the grammar.
use Rattle.std.proofs.Common.{◌≡◌, ℕ, zero, suc, ◌+◌, ◌≤◌, Bool, false, ◌&&◌, List, length, Some, refl, subst, arith, inl, inr}
use Rattle.std.proofs.lemmas.Bool.{not-false}
use Rattle.mj_lexer.specs.declared.token.Token.{Token}
use Rattle.mj_lexer.specs.declared.token.Terminal.TheVariants as terminals
use Rattle.mj_expressions.specs.Tokens.{Stands, has, name_at}
use Rattle.mj_tree.specs.Trees.{Name, Expression, Statement}
use Rattle.mj_tree.specs.Views.{statements_of}
use Rattle.mj_expressions.specs.Expressions.{size, height, IsExp}
use Rattle.mj_parser.specs.Statements.{stmt_size, stmts_size, stmt_height, stmts_height, opens_print, IsStmt, AreStmts}
use Rattle.mj_expressions.specs.Steps.{PartParser, items_from}
use Rattle.mj_expressions.specs.ExpressionReading.{exp_at}
use Rattle.mj_parser.specs.StatementReading.{not_brace, block_at, condition_at, if_at, while_at, print_at, assign_at, store_at, named_at, stmt_of, stmt_at}
use Rattle.mj_expressions.proofs.Binds.{bind_some, when_some, if_some, some_is}
use Rattle.mj_expressions.proofs.ExpressionFound.{exp_found}
use Rattle.mj_expressions.proofs.Stands.{stands, when_stands, if_stands, both_stand}

-- a statement that was read up to a place
pub record SoundStmt (ts : List Token) (i room : ℕ) (x : Statement × ℕ) : Type 0 where
  pub is : IsStmt ts i x.0
  pub at : x.1 ≡ i + stmt_size x.0
  pub low : stmt_height x.0 ≤ room

-- statements that were read up to a place where no other begins
pub record SoundStmts (ts : List Token) (goes_on : ℕ → Bool) (i room : ℕ) (x : List Statement × ℕ) : Type 0 where
  pub are : AreStmts ts i (statements_of x.0)
  pub at : x.1 ≡ i + stmts_size (statements_of x.0)
  pub low : stmts_height (statements_of x.0) ≤ room
  pub ends : goes_on x.1 ≡ false

-- a condition behind the word at place i
pub record SoundCondition (ts : List Token) (i room : ℕ) (x : Expression × ℕ) : Type 0 where
  pub paren : Stands ts (i + 1) terminals.LeftParenthesis
  pub is : IsExp ts 5 (i + 2) x.0
  pub close : Stands ts (i + 2 + size x.0) terminals.RightParenthesis
  pub at : x.1 ≡ i + 2 + size x.0 + 1
  pub low : height x.0 ≤ room

pub stmts_found : (ts : List Token) (room : ℕ) (part : PartParser Statement) → ((i : ℕ) (x : Statement × ℕ) → part i ≡ Some x → SoundStmt ts i room x) → (goes_on : ℕ → Bool) (gas i : ℕ) (x : List Statement × ℕ) → items_from gas part goes_on i ≡ Some x → SoundStmts ts goes_on i room x
unfolding items_from
stmts_found ts room part sound goes_on zero i x e = absurd cc
stmts_found ts room part sound goes_on (suc gas) i x e =
    elim (if_some (goes_on i) _ _ x e) [
      | inl a ↦
          let b = bind_some (part i) _ x a.1 in
          let c = bind_some (items_from gas part goes_on b.0.1) _ x b.2 in
          let s = sound i b.0 b.1 in
          let t = stmts_found ts room part sound goes_on gas b.0.1 c.0 c.1 in
          let low = s.low in
          let low2 = t.low in
          let place = s.at in
          let at2 = t.at in
          subst (SoundStmts ts goes_on i room) (some_is _ x c.2) (record {
            are = (s.is, subst (λ (k : ℕ). AreStmts ts k (statements_of c.0.0)) s.at t.are);
            at = omega arith;
            low = omega arith;
            ends = t.ends;
          })
      | inr a ↦ subst (SoundStmts ts goes_on i room) (some_is _ x a.1) (record { are = tt; at = omega arith; low = omega arith; ends = a.0 })
    ]

condition_found : (ts : List Token) (room i : ℕ) (x : Expression × ℕ) → condition_at (exp_at room ts 5) ts (i + 1) ≡ Some x → SoundCondition ts i room x
unfolding condition_at
condition_found ts room i x e =
    let a = when_stands ts (i + 1) terminals.LeftParenthesis _ x e in
    let b = bind_some (exp_at room ts 5 (i + 1 + 1)) _ x a.1 in
    let c = when_stands ts b.0.1 terminals.RightParenthesis _ x b.2 in
    let s = exp_found ts room 5 (i + 1 + 1) b.0 b.1 in
    let place = s.at in
    let two : i + 1 + 1 ≡ i + 2 = omega arith in
    let there : b.0.1 ≡ i + 2 + size b.0.0 = omega arith in
    subst (SoundCondition ts i room) (some_is _ x c.1) (record {
      paren = a.0;
      is = subst (λ (k : ℕ). IsExp ts 5 k b.0.0) two s.is;
      close = subst (λ (k : ℕ). Stands ts k terminals.RightParenthesis) there c.0;
      at = omega arith;
      low = s.low;
    })

module _ (ts : List Token) (room : ℕ) (part : PartParser Statement) (sound : (i : ℕ) (x : Statement × ℕ) → part i ≡ Some x → SoundStmt ts i room x) where
  block_found : (i : ℕ) (x : Statement × ℕ) → Stands ts i terminals.LeftBrace → block_at part ts i ≡ Some x → SoundStmt ts i (suc room) x
  unfolding block_at
  block_found i x h e =
      let b = bind_some (items_from (suc (length ts)) part (not_brace ts) (i + 1)) _ x e in
      let t = stmts_found ts room part sound (not_brace ts) (suc (length ts)) (i + 1) b.0 b.1 in
      let at = t.at in
      let low = t.low in
      subst (SoundStmt ts i (suc room)) (some_is _ x b.2) (record {
        is = (refl, h, t.are, subst (λ (k : ℕ). Stands ts k terminals.RightBrace) t.at (stands ts b.0.1 terminals.RightBrace (not-false (has ts b.0.1 terminals.RightBrace) t.ends)));
        at = omega arith;
        low = omega arith;
      })

  if_found : (i : ℕ) (x : Statement × ℕ) → Stands ts i terminals.If → if_at (exp_at room ts 5) part ts i ≡ Some x → SoundStmt ts i (suc room) x
  unfolding if_at
  if_found i x h e =
      let b = bind_some (condition_at (exp_at room ts 5) ts (i + 1)) _ x e in
      let k = condition_found ts room i b.0 b.1 in
      let f = bind_some (part b.0.1) _ x b.2 in
      let s = sound b.0.1 f.0 f.1 in
      let w = when_stands ts f.0.1 terminals.Else _ x f.2 in
      let g = bind_some (part (f.0.1 + 1)) _ x w.1 in
      let t = sound (f.0.1 + 1) g.0 g.1 in
      let k-at = k.at in
      let s-at = s.at in
      let t-at = t.at in
      let k-low = k.low in
      let s-low = s.low in
      let t-low = t.low in
      let there : f.0.1 ≡ i + 2 + size b.0.0 + 1 + stmt_size f.0.0 = omega arith in
      subst (SoundStmt ts i (suc room)) (some_is _ x g.2) (record {
        is = (refl, h, k.paren, k.is, k.close, subst (λ (j : ℕ). IsStmt ts j f.0.0) k.at s.is, subst (λ (j : ℕ). Stands ts j terminals.Else) there w.0, subst (λ (j : ℕ). IsStmt ts (j + 1) g.0.0) there t.is);
        at = omega arith;
        low = omega arith;
      })

  while_found : (i : ℕ) (x : Statement × ℕ) → Stands ts i terminals.While → while_at (exp_at room ts 5) part ts i ≡ Some x → SoundStmt ts i (suc room) x
  unfolding while_at
  while_found i x h e =
      let b = bind_some (condition_at (exp_at room ts 5) ts (i + 1)) _ x e in
      let k = condition_found ts room i b.0 b.1 in
      let f = bind_some (part b.0.1) _ x b.2 in
      let s = sound b.0.1 f.0 f.1 in
      let k-at = k.at in
      let s-at = s.at in
      let k-low = k.low in
      let s-low = s.low in
      subst (SoundStmt ts i (suc room)) (some_is _ x f.2) (record {
        is = (refl, h, k.paren, k.is, k.close, subst (λ (j : ℕ). IsStmt ts j f.0.0) k.at s.is);
        at = omega arith;
        low = omega arith;
      })

  print_found : (i : ℕ) (x : Statement × ℕ) → print_at (exp_at room ts 5) ts i ≡ Some x → SoundStmt ts i (suc room) x
  unfolding print_at
  print_found i x e =
      let a = when_some (opens_print ts i) _ x e in
      let b = bind_some (exp_at room ts 5 (i + 6)) _ x a.1 in
      let c = when_some (has ts b.0.1 terminals.RightParenthesis && has ts (b.0.1 + 1) terminals.Semicolon) _ x b.2 in
      let both = both_stand ts b.0.1 terminals.RightParenthesis (b.0.1 + 1) terminals.Semicolon c.0 in
      let s = exp_found ts room 5 (i + 6) b.0 b.1 in
      let at = s.at in
      let low = s.low in
      subst (SoundStmt ts i (suc room)) (some_is _ x c.1) (record {
        is = (refl, a.0, s.is, subst (λ (k : ℕ). Stands ts k terminals.RightParenthesis) s.at both.0, subst (λ (k : ℕ). Stands ts (k + 1) terminals.Semicolon) s.at both.1);
        at = omega arith;
        low = omega arith;
      })

  assign_found : (name : Name) (i : ℕ) (x : Statement × ℕ) → name_at ts i ≡ Some name → Stands ts (i + 1) terminals.Assign → assign_at (exp_at room ts 5) ts name i ≡ Some x → SoundStmt ts i (suc room) x
  unfolding assign_at
  assign_found name i x n h e =
      let b = bind_some (exp_at room ts 5 (i + 2)) _ x e in
      let c = when_stands ts b.0.1 terminals.Semicolon _ x b.2 in
      let s = exp_found ts room 5 (i + 2) b.0 b.1 in
      let at = s.at in
      let low = s.low in
      subst (SoundStmt ts i (suc room)) (some_is _ x c.1) (record {
        is = (refl, refl, n, h, s.is, subst (λ (k : ℕ). Stands ts k terminals.Semicolon) s.at c.0);
        at = omega arith;
        low = omega arith;
      })

  store_found : (name : Name) (i : ℕ) (x : Statement × ℕ) → name_at ts i ≡ Some name → Stands ts (i + 1) terminals.LeftBracket → store_at (exp_at room ts 5) ts name i ≡ Some x → SoundStmt ts i (suc room) x
  unfolding store_at
  store_found name i x n h e =
      let b = bind_some (exp_at room ts 5 (i + 2)) _ x e in
      let c = when_some (has ts b.0.1 terminals.RightBracket && has ts (b.0.1 + 1) terminals.Assign) _ x b.2 in
      let both = both_stand ts b.0.1 terminals.RightBracket (b.0.1 + 1) terminals.Assign c.0 in
      let s = exp_found ts room 5 (i + 2) b.0 b.1 in
      let d = bind_some (exp_at room ts 5 (b.0.1 + 2)) _ x c.1 in
      let f = when_stands ts d.0.1 terminals.Semicolon _ x d.2 in
      let t = exp_found ts room 5 (b.0.1 + 2) d.0 d.1 in
      let s-at = s.at in
      let t-at = t.at in
      let s-low = s.low in
      let t-low = t.low in
      let there : d.0.1 ≡ i + 2 + size b.0.0 + 2 + size d.0.0 = omega arith in
      subst (SoundStmt ts i (suc room)) (some_is _ x f.1) (record {
        is = (
          omega arith,
          refl,
          n,
          h,
          s.is,
          subst (λ (k : ℕ). Stands ts k terminals.RightBracket) s.at both.0,
          subst (λ (k : ℕ). Stands ts (k + 1) terminals.Assign) s.at both.1,
          subst (λ (k : ℕ). IsExp ts 5 (k + 2) d.0.0) s.at t.is,
          subst (λ (k : ℕ). Stands ts k terminals.Semicolon) there f.0,
        );
        at = omega arith;
        low = omega arith;
      })

  named_found : (i : ℕ) (x : Statement × ℕ) → named_at (exp_at room ts 5) ts i ≡ Some x → SoundStmt ts i (suc room) x
  unfolding named_at
  named_found i x e =
      let b = bind_some (name_at ts i) _ x e in
      elim (if_stands ts (i + 1) terminals.Assign _ _ x b.2) [
        | inl a ↦ assign_found b.0 i x b.1 a.0 a.1
        | inr a ↦ elim (if_stands ts (i + 1) terminals.LeftBracket _ _ x a.1) [
          | inl c ↦ store_found b.0 i x b.1 c.0 c.1
          | inr c ↦ print_found i x c.1
        ]
      ]

  part_found : (i : ℕ) (x : Statement × ℕ) → stmt_of (exp_at room ts 5) part ts i ≡ Some x → SoundStmt ts i (suc room) x
  unfolding stmt_of
  part_found i x e =
      elim (if_stands ts i terminals.LeftBrace _ _ x e) [
        | inl a ↦ block_found i x a.0 a.1
        | inr a ↦ elim (if_stands ts i terminals.If _ _ x a.1) [
          | inl b ↦ if_found i x b.0 b.1
          | inr b ↦ elim (if_stands ts i terminals.While _ _ x b.1) [
            | inl c ↦ while_found i x c.0 c.1
            | inr c ↦ named_found i x c.1
          ]
        ]
      ]

pub stmt_found : (ts : List Token) (room i : ℕ) (x : Statement × ℕ) → stmt_at room ts i ≡ Some x → SoundStmt ts i room x
unfolding stmt_at
stmt_found ts zero i x e = absurd cc
stmt_found ts (suc room) i x e = part_found ts room (stmt_at room ts) (stmt_found ts room) i x e
