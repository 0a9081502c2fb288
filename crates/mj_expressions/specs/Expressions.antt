-- The grammar of expressions, one case a production, over the places of one list of tokens.
use Rattle.std.specs.Prelude.{◌≡◌, ℕ, suc, ◌+◌, ◌<◌, max, Bool, true, false, List, Some, codes}
use Rattle.mj_lexer.specs.declared.token.Token.{Token}
use Rattle.mj_lexer.specs.declared.token.Terminal.{Terminal}
use Rattle.mj_lexer.specs.declared.token.Terminal.TheVariants as terminals
use Rattle.mj_tree.specs.declared.tree.Operator.{Operator}
use Rattle.mj_tree.specs.declared.tree.Operator.TheVariants.{And, Less, Plus, Minus, Times}
use Rattle.mj_expressions.specs.Tokens.{Stands, says, name_at, value_at}
use Rattle.mj_tree.specs.Trees.{Expression, Expressions, Binary, Index, Length, Call, Literal, Boolean, Named, This, NewArray, NewObject, Not, Parenthesized, none, more}

-- The tiers of expressions: a primary with what follows it, a unary, and any expression.
abbrev pub primary_tier : ℕ
primary_tier = 0

abbrev pub unary_tier : ℕ
unary_tier = 1

abbrev pub any_tier : ℕ
any_tier = 5

-- An operand on the right of an operator binds tighter than it: it is of this tier.
abbrev pub tier_of : Operator → ℕ
tier_of And = 4
tier_of Less = 3
tier_of Plus = 2
tier_of Minus = 2
tier_of Times = 1

abbrev pub terminal_of : Operator → Terminal
terminal_of And = terminals.And
terminal_of Less = terminals.Less
terminal_of Plus = terminals.Plus
terminal_of Minus = terminals.Minus
terminal_of Times = terminals.Times

abbrev pub terminal_of_bool : Bool → Terminal
terminal_of_bool true = terminals.True
terminal_of_bool false = terminals.False

-- how many tokens an expression has
abbrev mutual
  pub size : Expression → ℕ
  size (Binary operator mark left right) = size left + 1 + size right
  size (Index mark array index) = size array + 1 + size index + 1
  size (Length mark array) = size array + 2
  size (Call mark receiver method arguments) = size receiver + 3 + sizes arguments + 1
  size (Literal mark value) = 1
  size (Boolean mark value) = 1
  size (Named mark name) = 1
  size (This mark) = 1
  size (NewArray mark len) = 3 + size len + 1
  size (NewObject mark class) = 4
  size (Not mark operand) = 1 + size operand
  size (Parenthesized mark inner) = 1 + size inner + 1

  pub sizes : Expressions → ℕ
  sizes none = 0
  sizes (more first others) = size first + sizes_more others

  pub sizes_more : Expressions → ℕ
  sizes_more none = 0
  sizes_more (more first others) = 1 + size first + sizes_more others

-- how many levels an expression has
abbrev mutual
  pub height : Expression → ℕ
  height (Binary operator mark left right) = 1 + max (height left) (height right)
  height (Index mark array index) = 1 + max (height array) (height index)
  height (Length mark array) = 1 + height array
  height (Call mark receiver method arguments) = 1 + max (height receiver) (heights arguments)
  height (Literal mark value) = 1
  height (Boolean mark value) = 1
  height (Named mark name) = 1
  height (This mark) = 1
  height (NewArray mark len) = 1 + height len
  height (NewObject mark class) = 1
  height (Not mark operand) = 1 + height operand
  height (Parenthesized mark inner) = 1 + height inner

  pub heights : Expressions → ℕ
  heights none = 0
  heights (more first others) = max (height first) (heights others)

-- `[` may not follow such an array
abbrev pub is_new_array : Expression → Bool
is_new_array (NewArray mark len) = true
is_new_array _ = false

-- From place i on, the tokens are those of the tree, in which no operator binds looser than tier d.
abbrev mutual
  pub IsExp : List Token → ℕ → ℕ → Expression → Type 0
  IsExp ts d i (Binary operator mark left right) =
      (tier_of operator < d) × IsExp ts (suc (tier_of operator)) i left × (mark ≡ i + size left)
      × Stands ts mark (terminal_of operator) × IsExp ts (tier_of operator) (mark + 1) right
  IsExp ts d i (Index mark array index) =
      IsExp ts primary_tier i array × (is_new_array array ≡ false) × (mark ≡ i + size array)
      × Stands ts mark terminals.LeftBracket × IsExp ts any_tier (mark + 1) index
      × Stands ts (mark + 1 + size index) terminals.RightBracket
  IsExp ts d i (Length mark array) =
      IsExp ts primary_tier i array × (mark ≡ i + size array + 1)
      × Stands ts (i + size array) terminals.Dot × (says ts mark (codes "length") ≡ true)
  IsExp ts d i (Call mark receiver method arguments) =
      IsExp ts primary_tier i receiver × (mark ≡ i + size receiver + 1)
      × Stands ts (i + size receiver) terminals.Dot × (name_at ts mark ≡ Some method)
      × Stands ts (mark + 1) terminals.LeftParenthesis × AreArguments ts (mark + 2) arguments
      × Stands ts (mark + 2 + sizes arguments) terminals.RightParenthesis
  IsExp ts d i (Literal mark value) = (mark ≡ i) × (value_at ts i ≡ Some value)
  IsExp ts d i (Boolean mark value) = (mark ≡ i) × Stands ts i (terminal_of_bool value)
  IsExp ts d i (Named mark name) = (mark ≡ i) × (name_at ts i ≡ Some name)
  IsExp ts d i (This mark) = (mark ≡ i) × Stands ts i terminals.This
  IsExp ts d i (NewArray mark len) =
      (mark ≡ i) × Stands ts i terminals.New × Stands ts (i + 1) terminals.Int
      × Stands ts (i + 2) terminals.LeftBracket × IsExp ts any_tier (i + 3) len
      × Stands ts (i + 3 + size len) terminals.RightBracket
  IsExp ts d i (NewObject mark class) =
      (mark ≡ i) × Stands ts i terminals.New × (name_at ts (i + 1) ≡ Some class)
      × Stands ts (i + 2) terminals.LeftParenthesis
      × Stands ts (i + 3) terminals.RightParenthesis
  IsExp ts d i (Not mark operand) =
      (0 < d) × (mark ≡ i) × Stands ts i terminals.Not × IsExp ts unary_tier (i + 1) operand
  IsExp ts d i (Parenthesized mark inner) =
      (mark ≡ i) × Stands ts i terminals.LeftParenthesis × IsExp ts any_tier (i + 1) inner
      × Stands ts (i + 1 + size inner) terminals.RightParenthesis

  pub AreArguments : List Token → ℕ → Expressions → Type 0
  AreArguments ts i none = Unit {0}
  AreArguments ts i (more first others) =
      IsExp ts any_tier i first × AreMore ts (i + size first) others

  pub AreMore : List Token → ℕ → Expressions → Type 0
  AreMore ts i none = Unit {0}
  AreMore ts i (more first others) =
      Stands ts i terminals.Comma × IsExp ts any_tier (i + 1) first
      × AreMore ts (i + 1 + size first) others
