-- What is a statement by the grammar is read as that statement.
use Rattle.std.proofs.Common.{◌≡◌, ℕ, zero, suc, ◌+◌, ◌<◌, ◌≤◌, Bool, true, false, not, ◌&&◌, List, length, Option, Some, refl, ap, subst, arith}
use Rattle.std.specs.Prelude.{codes}
use Rattle.mj_lexer.specs.declared.token.Token.{Token}
use Rattle.mj_lexer.specs.declared.token.Terminal.{Terminal}
use Rattle.mj_lexer.specs.declared.token.Terminal.TheVariants as terminals
use Rattle.mj_expressions.specs.Tokens.{same_terminal, has, says, name_at}
use Rattle.mj_tree.specs.Trees.{Name, Expression, Statement, Statements, Block, If, While, Print, Assign, Store, done, next}
use Rattle.mj_expressions.specs.Expressions.{size, height, IsExp}
use Rattle.mj_parser.specs.Statements.{stmt_size, stmts_size, stmt_height, stmts_height, opens_print, IsStmt, AreStmts}
use Rattle.mj_expressions.specs.Steps.{PartParser, items_from}
use Rattle.mj_expressions.specs.ExpressionReading.{exp_at}
use Rattle.mj_parser.specs.StatementReading.{not_brace, block_at, condition_at, if_at, while_at, print_at, assign_at, store_at, named_at, stmt_of, stmt_at}
use Rattle.mj_parser.proofs.Lists.{stmts_list, list_stmts}
use Rattle.mj_expressions.proofs.Marks.{has_other, has_named, has_within, says_name}
use Rattle.mj_expressions.proofs.ExpressionLaw.{exp_before}
use Rattle.mj_expressions.proofs.ExpressionAgain.{closer_paren, closer_bracket, closer_semicolon}
use Rattle.mj_expressions.proofs.Stands.{has_is}

pub stmt_some : (s : Statement) → 0 < stmt_size s
stmt_some (Block m body) = omega arith
stmt_some (If m c a b) = omega arith
stmt_some (While m c a) = omega arith
stmt_some (Print m v) = omega arith
stmt_some (Assign m n k v) = omega arith
stmt_some (Store m n k x v) = omega arith

pub stmt_height_some : (s : Statement) → 0 < stmt_height s
stmt_height_some (Block m body) = omega arith
stmt_height_some (If m c a b) = omega arith
stmt_height_some (While m c a) = omega arith
stmt_height_some (Print m v) = omega arith
stmt_height_some (Assign m n k v) = omega arith
stmt_height_some (Store m n k x v) = omega arith

-- `System` begins a print
pub print_name : (ts : List Token) (i : ℕ) → opens_print ts i ≡ true → name_at ts i ≡ Some (codes "System")
print_name ts i h = says_name ts i (codes "System") (first (says ts i (codes "System")) _ _ _ _ _ h)
  where
    first : (a b c d e f : Bool) → (a && b && c && d && e && f) ≡ true → a ≡ true
    first true b c d e f h = refl
    first false b c d e f h = absurd cc

-- `.` follows it
pub print_dot : (ts : List Token) (i : ℕ) → opens_print ts i ≡ true → has ts (i + 1) terminals.Dot ≡ true
print_dot ts i h = second (says ts i (codes "System")) (has ts (i + 1) terminals.Dot) _ _ _ _ h
  where
    second : (a b c d e f : Bool) → (a && b && c && d && e && f) ≡ true → b ≡ true
    second true true c d e f h = refl
    second true false c d e f h = absurd cc
    second false b c d e f h = absurd cc

-- this token begins no statement
pub no_statement : (ts : List Token) (n : Terminal) → same_terminal terminals.LeftBrace n ≡ false → same_terminal terminals.If n ≡ false → same_terminal terminals.While n ≡ false → (s : Statement) (i : ℕ) → IsStmt ts i s → has ts i n ≡ false
no_statement ts n a b c (Block m body) i h = has_other ts i terminals.LeftBrace n (has_is _ _ _ h.1) a
no_statement ts n a b c (If m e s t) i h = has_other ts i terminals.If n (has_is _ _ _ h.1) b
no_statement ts n a b c (While m e s) i h = has_other ts i terminals.While n (has_is _ _ _ h.1) c
no_statement ts n a b c (Print m v) i h = has_named ts i n (codes "System") (print_name ts i h.1)
no_statement ts n a b c (Assign m name k v) i h = has_named ts i n name h.2
no_statement ts n a b c (Store m name k x v) i h = has_named ts i n name h.2

pub stmts_again : (ts : List Token) (room : ℕ) (part : PartParser Statement) → ((i j : ℕ) (s : Statement) → IsStmt ts i s → stmt_height s ≤ room → j ≡ i + stmt_size s → part i ≡ Some (s, j)) → (goes_on : ℕ → Bool) → ((i : ℕ) (s : Statement) → IsStmt ts i s → goes_on i ≡ true)
    → (ss : Statements) (gas i j : ℕ) → AreStmts ts i ss → stmts_height ss ≤ room → j ≡ i + stmts_size ss → goes_on j ≡ false → j ≤ length ts → length ts < gas + i → items_from gas part goes_on i ≡ Some (stmts_list ss, j)
unfolding items_from
stmts_again ts room part reads goes_on begins ss zero i j h low at e within enough = absurd (omega arith)
stmts_again ts room part reads goes_on begins done (suc gas) i j h low at e within enough =
    let same : i ≡ j = omega arith in
    rw (items_from, same, e) refl
stmts_again ts room part reads goes_on begins (next s ss) (suc gas) i j h low at e within enough =
    let some = stmt_some s in
    rw (items_from, begins i s h.0, reads i (i + stmt_size s) s h.0 (omega arith) refl, stmts_again ts room part reads goes_on begins ss gas (i + stmt_size s) j h.1 (omega arith) (omega arith) e within (omega arith)) refl

condition_again : (ts : List Token) (room i k : ℕ) (e : Expression) → has ts (i + 1) terminals.LeftParenthesis ≡ true → IsExp ts 5 (i + 2) e → height e ≤ room → has ts (i + 2 + size e) terminals.RightParenthesis ≡ true → k ≡ i + 2 + size e + 1 → condition_at (exp_at room ts 5) ts (i + 1) ≡ Some (e, k)
unfolding condition_at
condition_again ts room i k e p h low c at =
    let two : i + 2 ≡ i + 1 + 1 = omega arith in
    let r = exp_before ts room terminals.RightParenthesis closer_paren (i + 1 + 1) (i + 2 + size e) e (subst (λ (j : ℕ). IsExp ts 5 j e) two h) low (omega arith) c in
    rw (condition_at, at, p, r, c) refl

module _ (ts : List Token) (room : ℕ) (part : PartParser Statement) (reads : (i j : ℕ) (s : Statement) → IsStmt ts i s → stmt_height s ≤ room → j ≡ i + stmt_size s → part i ≡ Some (s, j)) where
  block_again : (i j : ℕ) (body : Statements) → AreStmts ts (i + 1) body → stmts_height body ≤ room → has ts (i + 1 + stmts_size body) terminals.RightBrace ≡ true → j ≡ i + 1 + stmts_size body + 1 → block_at part ts i ≡ Some (Block i body, j)
  unfolding block_at
  block_again i j body h low c at =
      let w = has_within ts (i + 1 + stmts_size body) terminals.RightBrace c in
      let begins = λ (k : ℕ) (s : Statement) (g : IsStmt ts k s). ap not (no_statement ts terminals.RightBrace refl refl refl s k g) in
      rw (block_at, at, stmts_again ts room part reads (not_brace ts) begins body (suc (length ts)) (i + 1) (i + 1 + stmts_size body) h low refl (ap not c) (omega arith) (omega arith), list_stmts body) refl

  if_again : (i j : ℕ) (e : Expression) (s t : Statement) → has ts (i + 1) terminals.LeftParenthesis ≡ true → IsExp ts 5 (i + 2) e → height e ≤ room → has ts (i + 2 + size e) terminals.RightParenthesis ≡ true → IsStmt ts (i + 2 + size e + 1) s → stmt_height s ≤ room
      → has ts (i + 2 + size e + 1 + stmt_size s) terminals.Else ≡ true → IsStmt ts (i + 2 + size e + 1 + stmt_size s + 1) t → stmt_height t ≤ room → j ≡ i + 2 + size e + 1 + stmt_size s + 1 + stmt_size t → if_at (exp_at room ts 5) part ts i ≡ Some (If i e s t, j)
  unfolding if_at
  if_again i j e s t p h low c hs lows o ht lowt at =
      rw (
        if_at,
        at,
        condition_again ts room i (i + 2 + size e + 1) e p h low c refl,
        reads (i + 2 + size e + 1) (i + 2 + size e + 1 + stmt_size s) s hs lows refl,
        o,
        reads (i + 2 + size e + 1 + stmt_size s + 1) (i + 2 + size e + 1 + stmt_size s + 1 + stmt_size t) t ht lowt refl,
      ) refl

  while_again : (i j : ℕ) (e : Expression) (s : Statement) → has ts (i + 1) terminals.LeftParenthesis ≡ true → IsExp ts 5 (i + 2) e → height e ≤ room → has ts (i + 2 + size e) terminals.RightParenthesis ≡ true → IsStmt ts (i + 2 + size e + 1) s → stmt_height s ≤ room
      → j ≡ i + 2 + size e + 1 + stmt_size s → while_at (exp_at room ts 5) part ts i ≡ Some (While i e s, j)
  unfolding while_at
  while_again i j e s p h low c hs lows at =
      rw (while_at, at, condition_again ts room i (i + 2 + size e + 1) e p h low c refl, reads (i + 2 + size e + 1) (i + 2 + size e + 1 + stmt_size s) s hs lows refl) refl

  print_again : (i j : ℕ) (e : Expression) → opens_print ts i ≡ true → IsExp ts 5 (i + 6) e → height e ≤ room → has ts (i + 6 + size e) terminals.RightParenthesis ≡ true → has ts (i + 6 + size e + 1) terminals.Semicolon ≡ true → j ≡ i + 6 + size e + 2 → print_at (exp_at room ts 5) ts i ≡ Some (Print i e, j)
  unfolding print_at
  print_again i j e o h low c d at =
      let r = exp_before ts room terminals.RightParenthesis closer_paren (i + 6) (i + 6 + size e) e h low refl c in
      rw (print_at, at, o, r, c, d) refl

  assign_again : (name : Name) (i j : ℕ) (e : Expression) → IsExp ts 5 (i + 2) e → height e ≤ room → has ts (i + 2 + size e) terminals.Semicolon ≡ true → j ≡ i + 2 + size e + 1 → assign_at (exp_at room ts 5) ts name i ≡ Some (Assign (i + 1) name i e, j)
  unfolding assign_at
  assign_again name i j e h low c at =
      let r = exp_before ts room terminals.Semicolon closer_semicolon (i + 2) (i + 2 + size e) e h low refl c in
      rw (assign_at, at, r, c) refl

  store_again : (name : Name) (i j : ℕ) (x e : Expression) → IsExp ts 5 (i + 2) x → height x ≤ room → has ts (i + 2 + size x) terminals.RightBracket ≡ true → has ts (i + 2 + size x + 1) terminals.Assign ≡ true → IsExp ts 5 (i + 2 + size x + 2) e → height e ≤ room
      → has ts (i + 2 + size x + 2 + size e) terminals.Semicolon ≡ true → j ≡ i + 2 + size x + 2 + size e + 1 → store_at (exp_at room ts 5) ts name i ≡ Some (Store (i + 2 + size x + 1) name i x e, j)
  unfolding store_at
  store_again name i j x e hx lowx b a h low c at =
      let q = exp_before ts room terminals.RightBracket closer_bracket (i + 2) (i + 2 + size x) x hx lowx refl b in
      let r = exp_before ts room terminals.Semicolon closer_semicolon (i + 2 + size x + 2) (i + 2 + size x + 2 + size e) e h low refl c in
      rw (store_at, at, q, b, a, r, c) refl

  named_assign : (name : Name) (i : ℕ) (x : Option (Statement × ℕ)) → name_at ts i ≡ Some name → has ts (i + 1) terminals.Assign ≡ true → assign_at (exp_at room ts 5) ts name i ≡ x → named_at (exp_at room ts 5) ts i ≡ x
  unfolding named_at
  named_assign name i x n a e = rw (named_at, n, a) e

  named_store : (name : Name) (i : ℕ) (x : Option (Statement × ℕ)) → name_at ts i ≡ Some name → has ts (i + 1) terminals.LeftBracket ≡ true → store_at (exp_at room ts 5) ts name i ≡ x → named_at (exp_at room ts 5) ts i ≡ x
  unfolding named_at
  named_store name i x n a e = rw (named_at, n, has_other ts (i + 1) terminals.LeftBracket terminals.Assign a refl, a) e

  named_print : (i : ℕ) (x : Option (Statement × ℕ)) → opens_print ts i ≡ true → print_at (exp_at room ts 5) ts i ≡ x → named_at (exp_at room ts 5) ts i ≡ x
  unfolding named_at
  named_print i x o e =
      let d = print_dot ts i o in
      rw (named_at, print_name ts i o, has_other ts (i + 1) terminals.Dot terminals.Assign d refl, has_other ts (i + 1) terminals.Dot terminals.LeftBracket d refl) e

  of_block : (i : ℕ) (x : Option (Statement × ℕ)) → has ts i terminals.LeftBrace ≡ true → block_at part ts i ≡ x → stmt_of (exp_at room ts 5) part ts i ≡ x
  unfolding stmt_of
  of_block i x h e = rw (stmt_of, h) e

  of_if : (i : ℕ) (x : Option (Statement × ℕ)) → has ts i terminals.If ≡ true → if_at (exp_at room ts 5) part ts i ≡ x → stmt_of (exp_at room ts 5) part ts i ≡ x
  unfolding stmt_of
  of_if i x h e = rw (stmt_of, has_other ts i terminals.If terminals.LeftBrace h refl, h) e

  of_while : (i : ℕ) (x : Option (Statement × ℕ)) → has ts i terminals.While ≡ true → while_at (exp_at room ts 5) part ts i ≡ x → stmt_of (exp_at room ts 5) part ts i ≡ x
  unfolding stmt_of
  of_while i x h e = rw (stmt_of, has_other ts i terminals.While terminals.LeftBrace h refl, has_other ts i terminals.While terminals.If h refl, h) e

  of_named : (name : Name) (i : ℕ) (x : Option (Statement × ℕ)) → name_at ts i ≡ Some name → named_at (exp_at room ts 5) ts i ≡ x → stmt_of (exp_at room ts 5) part ts i ≡ x
  unfolding stmt_of
  of_named name i x n e = rw (stmt_of, has_named ts i terminals.LeftBrace name n, has_named ts i terminals.If name n, has_named ts i terminals.While name n) e

  part_again : (i j : ℕ) (s : Statement) → IsStmt ts i s → stmt_height s ≤ suc room → j ≡ i + stmt_size s → stmt_of (exp_at room ts 5) part ts i ≡ Some (s, j)
  part_again i j (Block m body) h low at = rw h.0 (of_block i (Some (Block i body, j)) (has_is _ _ _ h.1) (block_again i j body h.2 (omega arith) (has_is _ _ _ h.3) (omega arith)))
  part_again i j (If m e s t) h low at = rw h.0 (of_if i (Some (If i e s t, j)) (has_is _ _ _ h.1) (if_again i j e s t (has_is _ _ _ h.2) h.3 (omega arith) (has_is _ _ _ h.4) h.5 (omega arith) (has_is _ _ _ h.6) h.7 (omega arith) (omega arith)))
  part_again i j (While m e s) h low at = rw h.0 (of_while i (Some (While i e s, j)) (has_is _ _ _ h.1) (while_again i j e s (has_is _ _ _ h.2) h.3 (omega arith) (has_is _ _ _ h.4) h.5 (omega arith) (omega arith)))
  part_again i j (Print m e) h low at = rw h.0 (of_named (codes "System") i (Some (Print i e, j)) (print_name ts i h.1) (named_print i (Some (Print i e, j)) h.1 (print_again i j e h.1 h.2 (omega arith) (has_is _ _ _ h.3) (has_is _ _ _ h.4) (omega arith))))
  part_again i j (Assign m name k e) h low at = rw (h.0, h.1) (of_named name i (Some (Assign (i + 1) name i e, j)) h.2 (named_assign name i (Some (Assign (i + 1) name i e, j)) h.2 (has_is _ _ _ h.3) (assign_again name i j e h.4 (omega arith) (has_is _ _ _ h.5) (omega arith))))
  part_again i j (Store m name k x e) h low at = rw (h.0, h.1) (of_named name i (Some (Store (i + 2 + size x + 1) name i x e, j)) h.2 (named_store name i (Some (Store (i + 2 + size x + 1) name i x e, j)) h.2 (has_is _ _ _ h.3) (store_again name i j x e h.4 (omega arith) (has_is _ _ _ h.5) (has_is _ _ _ h.6) h.7 (omega arith) (has_is _ _ _ h.8) (omega arith))))

pub stmt_again : (ts : List Token) (room i j : ℕ) (s : Statement) → IsStmt ts i s → stmt_height s ≤ room → j ≡ i + stmt_size s → stmt_at room ts i ≡ Some (s, j)
unfolding stmt_at
stmt_again ts zero i j s h low at = let n = stmt_height_some s in absurd (omega arith)
stmt_again ts (suc room) i j s h low at = part_again ts room (stmt_at room ts) (stmt_again ts room) i j s h low at
