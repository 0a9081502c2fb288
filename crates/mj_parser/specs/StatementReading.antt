-- Reading a statement. Expressions and inner statements are read by functions that are handed in.
use Rattle.std.specs.Prelude.{ℕ, zero, suc, ◌+◌, Bool, ◌&&◌, not, List, length, Option, Some, None, if◌then◌else◌}
use Rattle.mj_lexer.specs.declared.token.Token.{Token}
use Rattle.mj_lexer.specs.declared.token.Terminal.TheVariants as terminals
use Rattle.mj_expressions.specs.Tokens.{has, name_at}
use Rattle.mj_tree.specs.Trees.{Name, Expression, Statement, Block, If, While, Print, Assign, Store}
use Rattle.mj_tree.specs.Views.{statements_of}
use Rattle.mj_expressions.specs.Expressions.{any_tier}
use Rattle.mj_parser.specs.Statements.{opens_print}
use Rattle.mj_expressions.specs.Steps.{◌>>=◌, when, PartParser, items_from}
use Rattle.mj_expressions.specs.ExpressionReading.{exp_at}

-- statements up to a closing brace
abbrev pub not_brace : List Token → ℕ → Bool
not_brace ts i = not (has ts i terminals.RightBrace)

unfoldable pub block_at : PartParser Statement → List Token → ℕ → Option (Statement × ℕ)
block_at part ts i =
    items_from (suc (length ts)) part (not_brace ts) (i + 1)
    >>= λ body. Some (Block i (statements_of body.0), body.1 + 1)

-- an expression in parentheses, behind `if` or `while`
unfoldable pub condition_at : PartParser Expression → List Token → ℕ → Option (Expression × ℕ)
condition_at exp ts i =
    when (has ts i terminals.LeftParenthesis)
    (exp (i + 1) >>= λ c. when (has ts c.1 terminals.RightParenthesis) (Some (c.0, c.1 + 1)))

unfoldable pub if_at : PartParser Expression → PartParser Statement → List Token → ℕ
    → Option (Statement × ℕ)
if_at exp part ts i =
    condition_at exp ts (i + 1) >>= λ c. part c.1
    >>= λ then_branch. when (has ts then_branch.1 terminals.Else)
    (part (then_branch.1 + 1) >>= λ else_branch. Some
    (If i c.0 then_branch.0 else_branch.0, else_branch.1))

unfoldable pub while_at : PartParser Expression → PartParser Statement → List Token → ℕ
    → Option (Statement × ℕ)
while_at exp part ts i =
    condition_at exp ts (i + 1) >>= λ c. part c.1 >>= λ body. Some (While i c.0 body.0, body.1)

unfoldable pub print_at : PartParser Expression → List Token → ℕ → Option (Statement × ℕ)
print_at exp ts i =
    when (opens_print ts i) (exp (i + 6)
    >>= λ v. when (has ts v.1 terminals.RightParenthesis && has ts (v.1 + 1) terminals.Semicolon)
    (Some (Print i v.0, v.1 + 2)))

-- the value that is assigned, and the semicolon
abbrev pub assigned_at : PartParser Expression → List Token → (Expression → Statement)
    → PartParser Statement
assigned_at exp ts make j =
    exp j >>= λ v. when (has ts v.1 terminals.Semicolon) (Some (make v.0, v.1 + 1))

unfoldable pub assign_at : PartParser Expression → List Token → Name → ℕ → Option (Statement × ℕ)
assign_at exp ts name i = assigned_at exp ts (Assign (i + 1) name i) (i + 2)

unfoldable pub store_at : PartParser Expression → List Token → Name → ℕ → Option (Statement × ℕ)
store_at exp ts name i =
    exp (i + 2) >>= λ index. when (has ts index.1 terminals.RightBracket
    && has ts (index.1 + 1) terminals.Assign)
    (assigned_at exp ts (Store (index.1 + 1) name i index.0) (index.1 + 2))

-- a statement that begins with a name
unfoldable pub named_at : PartParser Expression → List Token → ℕ → Option (Statement × ℕ)
named_at exp ts i = name_at ts i >>= λ name.
    if has ts (i + 1) terminals.Assign then assign_at exp ts name i else (
    if has ts (i + 1) terminals.LeftBracket then store_at exp ts name i else print_at exp ts i)

unfoldable pub stmt_of : PartParser Expression → PartParser Statement → List Token → ℕ
    → Option (Statement × ℕ)
stmt_of exp part ts i =
    if has ts i terminals.LeftBrace then block_at part ts i else (
    if has ts i terminals.If then if_at exp part ts i else (
    if has ts i terminals.While then while_at exp part ts i else named_at exp ts i))

-- a statement of at most this many levels
unfoldable pub stmt_at : ℕ → List Token → PartParser Statement
stmt_at zero ts i = None
stmt_at (suc room) ts i = stmt_of (exp_at room ts any_tier) (stmt_at room ts) ts i
