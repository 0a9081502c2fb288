-- If the levels don't suffice, no statement is read.
use Rattle.std.proofs.Common.{◌≡◌, ◌≢◌, ℕ, zero, suc, ◌+◌, Bool, true, false, List, Option, Some, None, refl, arith}
use Rattle.std.specs.Prelude.{if◌then◌else◌}
use Rattle.mj_lexer.specs.declared.token.Token.{Token}
use Rattle.mj_lexer.specs.declared.token.Terminal.TheVariants as terminals
use Rattle.mj_expressions.specs.declared.fault.ParseFault.{ParseFault}
use Rattle.mj_expressions.specs.declared.fault.ParseFault.TheVariants.{NotAFile, TooDeep, OutOfMemory}
use Rattle.mj_expressions.specs.Tokens.{has, name_at}
use Rattle.mj_tree.specs.Trees.{Name, Statement}
use Rattle.mj_parser.specs.Statements.{opens_print}
use Rattle.mj_expressions.specs.Steps.{◌>>=◌, when, PartParser, FailsToParse}
use Rattle.mj_expressions.specs.ExpressionReading.{exp_at}
use Rattle.mj_parser.specs.StatementReading.{condition_at, if_at, while_at, print_at, assign_at, store_at, named_at, stmt_of, stmt_at}

-- a refusal that isn't about memory, if nothing is found
pub fails : {A : Type 0} (e : ParseFault) (x : Option A) → e ≢ OutOfMemory → x ≡ None → FailsToParse e x
fails OutOfMemory x ne n = tt
fails (NotAFile k) x ne n = n
fails TooDeep x ne n = n

when_none : {A : Type 0} (b : Bool) (x : Option A) → x ≡ None → when b x ≡ None
when_none true x n = n
when_none false x n = refl

if_none : {A : Type 0} (b : Bool) (x y : Option A) → x ≡ None → y ≡ None → (if b then x else y) ≡ None
if_none true x y m n = m
if_none false x y m n = n

module _ (part : PartParser Statement) (ts : List Token) (i : ℕ) where
  no_condition : (k : ℕ) → condition_at (exp_at 0 ts 5) ts k ≡ None
  unfolding condition_at exp_at
  no_condition k = when_none (has ts k terminals.LeftParenthesis) _ refl

  no_if : if_at (exp_at 0 ts 5) part ts i ≡ None
  unfolding if_at
  no_if = rw (if_at, no_condition (i + 1)) refl

  no_while : while_at (exp_at 0 ts 5) part ts i ≡ None
  unfolding while_at
  no_while = rw (while_at, no_condition (i + 1)) refl

  no_print : print_at (exp_at 0 ts 5) ts i ≡ None
  unfolding print_at exp_at
  no_print = when_none (opens_print ts i) _ refl

  no_assign : (name : Name) → assign_at (exp_at 0 ts 5) ts name i ≡ None
  unfolding assign_at exp_at
  no_assign name = refl

  no_store : (name : Name) → store_at (exp_at 0 ts 5) ts name i ≡ None
  unfolding store_at exp_at
  no_store name = refl

  after_name : (o : Option Name) → (o >>= λ name. if has ts (i + 1) terminals.Assign then assign_at (exp_at 0 ts 5) ts name i else (if has ts (i + 1) terminals.LeftBracket then store_at (exp_at 0 ts 5) ts name i else print_at (exp_at 0 ts 5) ts i)) ≡ None
  after_name None = refl
  after_name (Some name) = if_none (has ts (i + 1) terminals.Assign) _ _ (no_assign name) (if_none (has ts (i + 1) terminals.LeftBracket) _ _ (no_store name) no_print)

  no_named : named_at (exp_at 0 ts 5) ts i ≡ None
  unfolding named_at
  no_named = after_name (name_at ts i)

  no_part : has ts i terminals.LeftBrace ≡ false → stmt_of (exp_at 0 ts 5) part ts i ≡ None
  unfolding stmt_of
  no_part e = rw (stmt_of, e) (if_none (has ts i terminals.If) _ _ no_if (if_none (has ts i terminals.While) _ _ no_while no_named))

pub none_at_zero : (ts : List Token) (room i : ℕ) → room ≡ 0 → stmt_at room ts i ≡ None
unfolding stmt_at
none_at_zero ts zero i e = refl
none_at_zero ts (suc room) i e = absurd (omega arith)

pub none_at_one : (ts : List Token) (room i : ℕ) → room ≡ 1 → has ts i terminals.LeftBrace ≡ false → stmt_at room ts i ≡ None
unfolding stmt_at
none_at_one ts zero i e h = absurd (omega arith)
none_at_one ts (suc zero) i e h = no_part (stmt_at 0 ts) ts i h
none_at_one ts (suc (suc room)) i e h = absurd (omega arith)
