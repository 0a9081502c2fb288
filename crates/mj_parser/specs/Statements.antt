-- The grammar of statements, one case a production.
use Rattle.std.specs.Prelude.{◌≡◌, ℕ, ◌+◌, max, Bool, true, ◌&&◌, List, [], ◌∷◌, Some, codes, if◌then◌else◌}
use Rattle.mj_lexer.specs.declared.token.Token.{Token}
use Rattle.mj_lexer.specs.declared.token.Terminal.TheVariants as terminals
use Rattle.mj_expressions.specs.Tokens.{has, Stands, says, name_at, first_wrong}
use Rattle.mj_tree.specs.Trees.{Statement, Statements, Block, If, While, Print, Assign, Store, done, next}
use Rattle.mj_expressions.specs.Expressions.{any_tier, size, height, IsExp}

-- how many tokens a statement has
abbrev mutual
  pub stmt_size : Statement → ℕ
  stmt_size (Block mark body) = 1 + stmts_size body + 1
  stmt_size (If mark condition then_branch else_branch) =
      2 + size condition + 1 + stmt_size then_branch + 1 + stmt_size else_branch
  stmt_size (While mark condition body) = 2 + size condition + 1 + stmt_size body
  stmt_size (Print mark value) = 6 + size value + 2
  stmt_size (Assign mark name name_mark value) = 2 + size value + 1
  stmt_size (Store mark name name_mark index value) = 2 + size index + 2 + size value + 1

  pub stmts_size : Statements → ℕ
  stmts_size done = 0
  stmts_size (next first others) = stmt_size first + stmts_size others

-- how many levels a statement has
abbrev mutual
  pub stmt_height : Statement → ℕ
  stmt_height (Block mark body) = 1 + stmts_height body
  stmt_height (If mark condition then_branch else_branch) =
      1 + max (height condition) (max (stmt_height then_branch) (stmt_height else_branch))
  stmt_height (While mark condition body) = 1 + max (height condition) (stmt_height body)
  stmt_height (Print mark value) = 1 + height value
  stmt_height (Assign mark name name_mark value) = 1 + height value
  stmt_height (Store mark name name_mark index value) = 1 + max (height index) (height value)

  pub stmts_height : Statements → ℕ
  stmts_height done = 0
  stmts_height (next first others) = max (stmt_height first) (stmts_height others)

-- `System . out . println (` stands at a place
abbrev pub opens_print : List Token → ℕ → Bool
opens_print ts i =
    says ts i (codes "System") && has ts (i + 1) terminals.Dot && says ts (i + 2) (codes "out")
    && has ts (i + 3) terminals.Dot && says ts (i + 4) (codes "println")
    && has ts (i + 5) terminals.LeftParenthesis

-- The first place where that isn't so. Another name than `System` begins a statement too, so that
-- the place is the one behind it.
abbrev pub print_fault : List Token → ℕ → ℕ
print_fault ts i =
    if says ts i (codes "System")
    then first_wrong (i + 1) (has ts (i + 1) terminals.Dot ∷ says ts (i + 2) (codes "out")
    ∷ has ts (i + 3) terminals.Dot ∷ says ts (i + 4) (codes "println")
    ∷ has ts (i + 5) terminals.LeftParenthesis ∷ [])
    else i + 1

-- From place i on, the tokens are those of the statement.
abbrev mutual
  pub IsStmt : List Token → ℕ → Statement → Type 0
  IsStmt ts i (Block mark body) =
      (mark ≡ i) × Stands ts i terminals.LeftBrace × AreStmts ts (i + 1) body
      × Stands ts (i + 1 + stmts_size body) terminals.RightBrace
  IsStmt ts i (If mark condition then_branch else_branch) =
      (mark ≡ i) × Stands ts i terminals.If × Stands ts (i + 1) terminals.LeftParenthesis
      × IsExp ts any_tier (i + 2) condition
      × Stands ts (i + 2 + size condition) terminals.RightParenthesis
      × IsStmt ts (i + 2 + size condition + 1) then_branch
      × Stands ts (i + 2 + size condition + 1 + stmt_size then_branch) terminals.Else
      × IsStmt ts (i + 2 + size condition + 1 + stmt_size then_branch + 1) else_branch
  IsStmt ts i (While mark condition body) =
      (mark ≡ i) × Stands ts i terminals.While × Stands ts (i + 1) terminals.LeftParenthesis
      × IsExp ts any_tier (i + 2) condition
      × Stands ts (i + 2 + size condition) terminals.RightParenthesis
      × IsStmt ts (i + 2 + size condition + 1) body
  IsStmt ts i (Print mark value) =
      (mark ≡ i) × (opens_print ts i ≡ true) × IsExp ts any_tier (i + 6) value
      × Stands ts (i + 6 + size value) terminals.RightParenthesis
      × Stands ts (i + 6 + size value + 1) terminals.Semicolon
  IsStmt ts i (Assign mark name name_mark value) =
      (mark ≡ i + 1) × (name_mark ≡ i) × (name_at ts i ≡ Some name)
      × Stands ts (i + 1) terminals.Assign × IsExp ts any_tier (i + 2) value
      × Stands ts (i + 2 + size value) terminals.Semicolon
  IsStmt ts i (Store mark name name_mark index value) =
      (mark ≡ i + 2 + size index + 1) × (name_mark ≡ i) × (name_at ts i ≡ Some name)
      × Stands ts (i + 1) terminals.LeftBracket × IsExp ts any_tier (i + 2) index
      × Stands ts (i + 2 + size index) terminals.RightBracket
      × Stands ts (i + 2 + size index + 1) terminals.Assign
      × IsExp ts any_tier (i + 2 + size index + 2) value
      × Stands ts (i + 2 + size index + 2 + size value) terminals.Semicolon

  pub AreStmts : List Token → ℕ → Statements → Type 0
  AreStmts ts i done = Unit {0}
  AreStmts ts i (next first others) = IsStmt ts i first × AreStmts ts (i + stmt_size first) others
