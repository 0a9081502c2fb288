-- No word `class` or `public` stands in types, variables, expressions and statements.
use Rattle.std.proofs.Common.{◌≡◌, ℕ, ◌+◌, Bool, true, false, ◌&&◌, List, [], ◌∷◌, Some, refl, arith, codes}
use Rattle.mj_lexer.specs.declared.token.Token.{Token}
use Rattle.mj_lexer.specs.declared.token.Terminal.{Terminal}
use Rattle.mj_lexer.specs.declared.token.Terminal.TheVariants as terminals
use Rattle.mj_tree.specs.declared.tree.Operator.{Operator}
use Rattle.mj_tree.specs.declared.tree.Operator.TheVariants.{And, Less, Plus, Minus, Times}
use Rattle.mj_tree.specs.declared.tree.Ty.{Ty}
use Rattle.mj_tree.specs.declared.tree.Ty.TheVariants as types
use Rattle.mj_tree.specs.declared.tree.Variable.{Variable}
use Rattle.mj_tree.specs.Trees.{Name, Expression, Expressions, Binary, Index, Length, Call, Literal, Boolean, Named, This, NewArray, NewObject, Not, Parenthesized, none, more, Statement, Statements, Block, If, While, Print, Assign, Store, done, next}
use Rattle.mj_expressions.specs.Tokens.{same_terminal, has, Stands, says, name_at, value_at}
use Rattle.mj_expressions.specs.Expressions.{terminal_of, terminal_of_bool, size, sizes, sizes_more, IsExp, AreArguments, AreMore}
use Rattle.mj_parser.specs.Statements.{stmt_size, stmts_size, opens_print, IsStmt, AreStmts}
use Rattle.mj_parser.specs.Rows.{InRow, row_size}
use Rattle.mj_parser.specs.Declarations.{type_size, IsType, IsVariableAt, variable_size, IsMoreFormal, more_formal_size, formals_size, AreFormals, IsLocalAt, local_size}
use Rattle.mj_expressions.proofs.Marks.{has_other, has_named, has_valued, says_name}
use Rattle.mj_expressions.proofs.Stands.{has_is, stands}
use Rattle.place_laws.proofs.Runs.{Along, along_none, along_one, along_map, upto, join, row_along}

-- neither `class` nor `public` stands at a place
abbrev pub IsQuiet : List Token → ℕ → Type 0
IsQuiet ts at = (has ts at terminals.Class ≡ false) × (has ts at terminals.Public ≡ false)

-- nor `static`, nor a semicolon
abbrev pub IsPlain : List Token → ℕ → Type 0
IsPlain ts at =
    (has ts at terminals.Class ≡ false) × (has ts at terminals.Public ≡ false)
    × (has ts at terminals.Static ≡ false) × (has ts at terminals.Semicolon ≡ false)

-- a terminal that is neither word
record IsOther (t : Terminal) : Type 0 where
  pub class : same_terminal t terminals.Class ≡ false
  pub public : same_terminal t terminals.Public ≡ false

operator_other : (o : Operator) → IsOther (terminal_of o)
operator_other And = record { class = refl; public = refl }
operator_other Less = record { class = refl; public = refl }
operator_other Plus = record { class = refl; public = refl }
operator_other Minus = record { class = refl; public = refl }
operator_other Times = record { class = refl; public = refl }

bool_other : (b : Bool) → IsOther (terminal_of_bool b)
bool_other true = record { class = refl; public = refl }
bool_other false = record { class = refl; public = refl }

-- six tests that all hold
pub six_parts : (a b c d e f : Bool) → (a && b && c && d && e && f) ≡ true → (a ≡ true) × (b ≡ true) × (c ≡ true) × (d ≡ true) × (e ≡ true) × (f ≡ true)
six_parts true true true true true true h = (refl, refl, refl, refl, refl, refl)
six_parts true true true true true false h = absurd cc
six_parts true true true true false f h = absurd cc
six_parts true true true false e f h = absurd cc
six_parts true true false d e f h = absurd cc
six_parts true false c d e f h = absurd cc
six_parts false b c d e f h = absurd cc

module _ (ts : List Token) where
  abbrev pub Quiet : ℕ → ℕ → Type 0
  Quiet i j = Along (IsQuiet ts) i j

  other : (i : ℕ) (t : Terminal) → Stands ts i t → IsOther t → Quiet i (i + 1)
  other i t s o = let at = has_is ts i t s in along_one i (has_other ts i t terminals.Class at o.class, has_other ts i t terminals.Public at o.public)

  pub sign : (i : ℕ) (t : Terminal) → Stands ts i t → same_terminal t terminals.Class ≡ false → same_terminal t terminals.Public ≡ false → Quiet i (i + 1)
  sign i t s c p = other i t s (record { class = c; public = p })

  pub word : (i : ℕ) (name : Name) → name_at ts i ≡ Some name → Quiet i (i + 1)
  word i name e = along_one i (has_named ts i terminals.Class name e, has_named ts i terminals.Public name e)

  pub said : (i : ℕ) (name : Name) → says ts i name ≡ true → Quiet i (i + 1)
  said i name e = word i name (says_name ts i name e)

  value : (i n : ℕ) → value_at ts i ≡ Some n → Quiet i (i + 1)
  value i n e = along_one i (has_valued ts i terminals.Class n e, has_valued ts i terminals.Public n e)

  mutual
    exp_quiet : (d i : ℕ) (e : Expression) → IsExp ts d i e → Quiet i (i + size e)
    exp_quiet d i (Binary o m l r) h =
        let at = h.2 in
        upto (join (exp_quiet _ i l h.1) (join (other m (terminal_of o) h.3 (operator_other o)) (exp_quiet _ (m + 1) r h.4) (omega arith)) (omega arith)) (omega arith)
    exp_quiet d i (Index m a x) h =
        let at = h.2 in
        let end = sign (m + 1 + size x) terminals.RightBracket h.5 refl refl in
        upto (join (exp_quiet _ i a h.0) (join (sign m terminals.LeftBracket h.3 refl refl) (join (exp_quiet _ (m + 1) x h.4) end (omega arith)) (omega arith)) (omega arith)) (omega arith)
    exp_quiet d i (Length m a) h =
        let at = h.1 in
        upto (join (exp_quiet _ i a h.0) (join (sign (i + size a) terminals.Dot h.2 refl refl) (said m (codes "length") h.3) (omega arith)) (omega arith)) (omega arith)
    exp_quiet d i (Call m e name es) h =
        let at = h.1 in
        let end = sign (m + 2 + sizes es) terminals.RightParenthesis h.6 refl refl in
        let listed = join (sign (m + 1) terminals.LeftParenthesis h.4 refl refl) (join (args_quiet (m + 2) es h.5) end (omega arith)) (omega arith) in
        upto (join (exp_quiet _ i e h.0) (join (sign (i + size e) terminals.Dot h.2 refl refl) (join (word m name h.3) listed (omega arith)) (omega arith)) (omega arith)) (omega arith)
    exp_quiet d i (Literal m v) h = value i v h.1
    exp_quiet d i (Boolean m v) h = other i (terminal_of_bool v) h.1 (bool_other v)
    exp_quiet d i (Named m name) h = word i name h.1
    exp_quiet d i (This m) h = sign i terminals.This h.1 refl refl
    exp_quiet d i (NewArray m x) h =
        let end = sign (i + 3 + size x) terminals.RightBracket h.5 refl refl in
        let sized = join (sign (i + 2) terminals.LeftBracket h.3 refl refl) (join (exp_quiet _ (i + 3) x h.4) end (omega arith)) (omega arith) in
        upto (join (sign i terminals.New h.1 refl refl) (join (sign (i + 1) terminals.Int h.2 refl refl) sized (omega arith)) (omega arith)) (omega arith)
    exp_quiet d i (NewObject m c) h =
        let end = join (sign (i + 2) terminals.LeftParenthesis h.3 refl refl) (sign (i + 3) terminals.RightParenthesis h.4 refl refl) (omega arith) in
        upto (join (sign i terminals.New h.1 refl refl) (join (word (i + 1) c h.2) end (omega arith)) (omega arith)) (omega arith)
    exp_quiet d i (Not m e) h = upto (join (sign i terminals.Not h.2 refl refl) (exp_quiet _ (i + 1) e h.3) (omega arith)) (omega arith)
    exp_quiet d i (Parenthesized m e) h =
        let end = sign (i + 1 + size e) terminals.RightParenthesis h.3 refl refl in
        upto (join (sign i terminals.LeftParenthesis h.1 refl refl) (join (exp_quiet _ (i + 1) e h.2) end (omega arith)) (omega arith)) (omega arith)

    args_quiet : (i : ℕ) (es : Expressions) → AreArguments ts i es → Quiet i (i + sizes es)
    args_quiet i none h = along_none i (i + 0) (omega arith)
    args_quiet i (more e es) h = upto (join (exp_quiet _ i e h.0) (more_quiet (i + size e) es h.1) (omega arith)) (omega arith)

    more_quiet : (i : ℕ) (es : Expressions) → AreMore ts i es → Quiet i (i + sizes_more es)
    more_quiet i none h = along_none i (i + 0) (omega arith)
    more_quiet i (more e es) h = upto (join (sign i terminals.Comma h.0 refl refl) (join (exp_quiet _ (i + 1) e h.1) (more_quiet (i + 1 + size e) es h.2) (omega arith)) (omega arith)) (omega arith)

  pub expression_quiet : (d i : ℕ) (e : Expression) → IsExp ts d i e → Quiet i (i + size e)
  expression_quiet = exp_quiet

  -- `( condition )`
  condition_quiet : (i : ℕ) (e : Expression) → Stands ts (i + 1) terminals.LeftParenthesis → IsExp ts 5 (i + 2) e → Stands ts (i + 2 + size e) terminals.RightParenthesis → Quiet (i + 1) (i + 2 + size e + 1)
  condition_quiet i e opening is closing = join (sign (i + 1) terminals.LeftParenthesis opening refl refl) (join (exp_quiet _ (i + 2) e is) (sign (i + 2 + size e) terminals.RightParenthesis closing refl refl) (omega arith)) (omega arith)

  print_quiet : (i : ℕ) → opens_print ts i ≡ true → Quiet i (i + 6)
  print_quiet i h =
      let p = six_parts (says ts i (codes "System")) (has ts (i + 1) terminals.Dot) (says ts (i + 2) (codes "out")) (has ts (i + 3) terminals.Dot) (says ts (i + 4) (codes "println")) (has ts (i + 5) terminals.LeftParenthesis) h in
      let first = join (said i (codes "System") p.0) (sign (i + 1) terminals.Dot (stands ts (i + 1) terminals.Dot p.1) refl refl) (omega arith) in
      let second = join (said (i + 2) (codes "out") p.2) (sign (i + 3) terminals.Dot (stands ts (i + 3) terminals.Dot p.3) refl refl) (omega arith) in
      let third = join (said (i + 4) (codes "println") p.4) (sign (i + 5) terminals.LeftParenthesis (stands ts (i + 5) terminals.LeftParenthesis p.5) refl refl) (omega arith) in
      upto (join first (join second third (omega arith)) (omega arith)) (omega arith)

  mutual
    stmt_quiet : (i : ℕ) (s : Statement) → IsStmt ts i s → Quiet i (i + stmt_size s)
    stmt_quiet i (Block m body) h =
        let end = sign (i + 1 + stmts_size body) terminals.RightBrace h.3 refl refl in
        upto (join (sign i terminals.LeftBrace h.1 refl refl) (join (stmts_quiet (i + 1) body h.2) end (omega arith)) (omega arith)) (omega arith)
    stmt_quiet i (If m e s t) h =
        let last = join (sign (i + 2 + size e + 1 + stmt_size s) terminals.Else h.6 refl refl) (stmt_quiet (i + 2 + size e + 1 + stmt_size s + 1) t h.7) (omega arith) in
        let branches = join (stmt_quiet (i + 2 + size e + 1) s h.5) last (omega arith) in
        upto (join (sign i terminals.If h.1 refl refl) (join (condition_quiet i e h.2 h.3 h.4) branches (omega arith)) (omega arith)) (omega arith)
    stmt_quiet i (While m e s) h = upto (join (sign i terminals.While h.1 refl refl) (join (condition_quiet i e h.2 h.3 h.4) (stmt_quiet (i + 2 + size e + 1) s h.5) (omega arith)) (omega arith)) (omega arith)
    stmt_quiet i (Print m e) h =
        let end = join (sign (i + 6 + size e) terminals.RightParenthesis h.3 refl refl) (sign (i + 6 + size e + 1) terminals.Semicolon h.4 refl refl) (omega arith) in
        upto (join (print_quiet i h.1) (join (exp_quiet _ (i + 6) e h.2) end (omega arith)) (omega arith)) (omega arith)
    stmt_quiet i (Assign m name k e) h =
        let end = join (exp_quiet _ (i + 2) e h.4) (sign (i + 2 + size e) terminals.Semicolon h.5 refl refl) (omega arith) in
        upto (join (word i name h.2) (join (sign (i + 1) terminals.Assign h.3 refl refl) end (omega arith)) (omega arith)) (omega arith)
    stmt_quiet i (Store m name k x e) h =
        let end = join (exp_quiet _ (i + 2 + size x + 2) e h.7) (sign (i + 2 + size x + 2 + size e) terminals.Semicolon h.8 refl refl) (omega arith) in
        let equals = join (sign (i + 2 + size x) terminals.RightBracket h.5 refl refl) (sign (i + 2 + size x + 1) terminals.Assign h.6 refl refl) (omega arith) in
        let index = join (sign (i + 1) terminals.LeftBracket h.3 refl refl) (exp_quiet _ (i + 2) x h.4) (omega arith) in
        upto (join (word i name h.2) (join index (join equals end (omega arith)) (omega arith)) (omega arith)) (omega arith)

    stmts_quiet : (i : ℕ) (ss : Statements) → AreStmts ts i ss → Quiet i (i + stmts_size ss)
    stmts_quiet i done h = along_none i (i + 0) (omega arith)
    stmts_quiet i (next s ss) h = upto (join (stmt_quiet i s h.0) (stmts_quiet (i + stmt_size s) ss h.1) (omega arith)) (omega arith)

  pub statement_quiet : (i : ℕ) (s : Statement) → IsStmt ts i s → Quiet i (i + stmt_size s)
  statement_quiet = stmt_quiet

  pub statements_quiet : (i : ℕ) (ss : Statements) → AreStmts ts i ss → Quiet i (i + stmts_size ss)
  statements_quiet = stmts_quiet

  -- plain tokens
  pub plain_sign : (i : ℕ) (t : Terminal) → Stands ts i t → same_terminal t terminals.Class ≡ false → same_terminal t terminals.Public ≡ false → same_terminal t terminals.Static ≡ false → same_terminal t terminals.Semicolon ≡ false → Along (IsPlain ts) i (i + 1)
  plain_sign i t s c p u e = let at = has_is ts i t s in along_one i (has_other ts i t terminals.Class at c, has_other ts i t terminals.Public at p, has_other ts i t terminals.Static at u, has_other ts i t terminals.Semicolon at e)

  pub plain_word : (i : ℕ) (name : Name) → name_at ts i ≡ Some name → Along (IsPlain ts) i (i + 1)
  plain_word i name e = along_one i (has_named ts i terminals.Class name e, has_named ts i terminals.Public name e, has_named ts i terminals.Static name e, has_named ts i terminals.Semicolon name e)

  pub plain_quiet : {i j : ℕ} → Along (IsPlain ts) i j → Quiet i j
  plain_quiet a = along_map (λ at p. (p.0, p.1)) a

  pub type_plain : (i : ℕ) (ty : Ty) → IsType ts i ty → Along (IsPlain ts) i (i + type_size ty)
  type_plain i types.Int h = plain_sign i terminals.Int h refl refl refl refl
  type_plain i types.Boolean h = plain_sign i terminals.Boolean h refl refl refl refl
  type_plain i types.IntArray h =
      let brackets = join (plain_sign (i + 1) terminals.LeftBracket h.1 refl refl refl refl) (plain_sign (i + 2) terminals.RightBracket h.2 refl refl refl refl) (omega arith) in
      upto (join (plain_sign i terminals.Int h.0 refl refl refl refl) brackets (omega arith)) (omega arith)
  type_plain i (types.Class name) h = plain_word i name h

  variable_quiet : (i : ℕ) (v : Variable) → IsVariableAt ts i v → Quiet i (i + variable_size v)
  variable_quiet i v h = upto (join (plain_quiet (type_plain i v.ty h.1)) (word (i + type_size v.ty) v.name h.2) (omega arith)) (omega arith)

  local_quiet : (i : ℕ) (v : Variable) → IsLocalAt ts i v → Quiet i (i + local_size v)
  local_quiet i v h = upto (join (variable_quiet i v h.0) (sign (i + variable_size v) terminals.Semicolon h.1 refl refl) (omega arith)) (omega arith)

  more_formal_quiet : (i : ℕ) (v : Variable) → IsMoreFormal ts i v → Quiet i (i + more_formal_size v)
  more_formal_quiet i v h = upto (join (sign i terminals.Comma h.0 refl refl) (variable_quiet (i + 1) v h.1) (omega arith)) (omega arith)

  pub locals_quiet : (i : ℕ) (vs : List Variable) → InRow (IsLocalAt ts) local_size i vs → Quiet i (i + row_size local_size vs)
  locals_quiet = row_along (IsLocalAt ts) local_size local_quiet

  pub formals_quiet : (i : ℕ) (vs : List Variable) → AreFormals ts i vs → Quiet i (i + formals_size vs)
  formals_quiet i [] h = along_none i (i + 0) (omega arith)
  formals_quiet i (v ∷ vs) h = upto (join (variable_quiet i v h.0) (row_along (IsMoreFormal ts) more_formal_size more_formal_quiet (i + variable_size v) vs h.1) (omega arith)) (omega arith)
