-- One token stands at a place.
use Rattle.std.proofs.Common.{◌≡◌, ℕ, ◌<◌, true, false, eqb, List, length, Option, Some, None, refl, sym, ap, ◌∙◌, arith}
use Rattle.std.proofs.lemmas.Bool.{eqb-true, eqb-false, ne_eqb}
use Rattle.std.proofs.lemmas.Option.{slice_get_within}
use Rattle.std.specs.Prelude.{slice_get}
use Rattle.std.proofs.lemmas.Slice.Eq.{bytes_eq-Decides}
use Rattle.mj_tree.specs.Trees.{Name}
use Rattle.mj_lexer.specs.declared.token.Terminal.{Terminal}
use Rattle.mj_lexer.specs.declared.token.Token.{Token}
use Rattle.mj_lexer.specs.declared.token.Terminal.TheVariants as terminals
use Rattle.mj_lexer.specs.declared.token.TokenKind.{TokenKind}
use Rattle.mj_lexer.specs.declared.token.TokenKind.TheVariants as kinds
use Rattle.mj_tree.specs.declared.tree.Operator.{Operator}
use Rattle.mj_tree.specs.declared.tree.Operator.TheVariants.{And, Less, Plus, Minus, Times}
use Rattle.mj_expressions.specs.Tokens.{terminal_number, same_terminal, is_terminal, is_word, name_of, value_of, token_kind, kind_at, has, name_at, value_at, says}
use Rattle.mj_expressions.specs.Expressions.{tier_of, terminal_of}
use Rattle.mj_expressions.specs.ExpressionReading.{operator_here, operator_at, of_tier}

eqb_flip : (a b : ℕ) → eqb a b ≡ false → eqb b a ≡ false
eqb_flip a b h = ne_eqb b a (λ e. eqb-false a b h (sym e))

terminal_other : (m n : Terminal) (k : Option TokenKind) → is_terminal m k ≡ true → same_terminal m n ≡ false → is_terminal n k ≡ false
terminal_other m n None h d = absurd cc
terminal_other m n (Some (kinds.Identifier name)) h d = absurd cc
terminal_other m n (Some (kinds.Literal value)) h d = absurd cc
terminal_other m n (Some (kinds.Terminal other)) h d = rw (← eqb-true (terminal_number m) (terminal_number other) h) (eqb_flip (terminal_number m) (terminal_number n) d)

pub has_other : (ts : List Token) (j : ℕ) (m n : Terminal) → has ts j m ≡ true → same_terminal m n ≡ false → has ts j n ≡ false
unfolding has
has_other ts j m n = terminal_other m n (kind_at ts j)

named_not : (n : Terminal) (k : Option TokenKind) (name : List ℕ) → name_of k ≡ Some name → is_terminal n k ≡ false
named_not n None name h = refl
named_not n (Some (kinds.Identifier x)) name h = refl
named_not n (Some (kinds.Literal value)) name h = refl
named_not n (Some (kinds.Terminal other)) name h = absurd cc

pub has_named : (ts : List Token) (j : ℕ) (n : Terminal) (name : List ℕ) → name_at ts j ≡ Some name → has ts j n ≡ false
unfolding has name_at
has_named ts j n name = named_not n (kind_at ts j) name

valued_not : (n : Terminal) (k : Option TokenKind) (value : ℕ) → value_of k ≡ Some value → is_terminal n k ≡ false
valued_not n None value h = refl
valued_not n (Some (kinds.Identifier x)) value h = refl
valued_not n (Some (kinds.Literal v)) value h = refl
valued_not n (Some (kinds.Terminal other)) value h = absurd cc

pub has_valued : (ts : List Token) (j : ℕ) (n : Terminal) (value : ℕ) → value_at ts j ≡ Some value → has ts j n ≡ false
unfolding has value_at
has_valued ts j n value = valued_not n (kind_at ts j) value

within_terminal : (ts : List Token) (j : ℕ) (m : Terminal) (k : Option Token) → slice_get ts j ≡ k → is_terminal m (token_kind k) ≡ true → j < length ts
within_terminal ts j m None e h = absurd cc
within_terminal ts j m (Some k) e h = slice_get_within ts j k e

pub has_within : (ts : List Token) (j : ℕ) (m : Terminal) → has ts j m ≡ true → j < length ts
unfolding has
has_within ts j m h = within_terminal ts j m (slice_get ts j) refl h

within_name : (ts : List Token) (j : ℕ) (name : Name) (k : Option Token) → slice_get ts j ≡ k → name_of (token_kind k) ≡ Some name → j < length ts
within_name ts j name None e h = absurd cc
within_name ts j name (Some k) e h = slice_get_within ts j k e

pub name_within : (ts : List Token) (j : ℕ) (name : Name) → name_at ts j ≡ Some name → j < length ts
unfolding name_at
name_within ts j name h = within_name ts j name (slice_get ts j) refl h

word_is : (word : List ℕ) (o : Option Name) → is_word word o ≡ true → o ≡ Some word
word_is word None h = absurd cc
word_is word (Some name) h = ap (λ (n : Name). Some n) ((bytes_eq-Decides name word).0 h)

-- the word that a place says is its name
pub says_name : (ts : List Token) (j : ℕ) (word : List ℕ) → says ts j word ≡ true → name_at ts j ≡ Some word
unfolding says
says_name ts j word h = word_is word (name_at ts j) h

-- no expression goes on over this token
pub record IsCloser (m : Terminal) : Type 0 where
  pub bracket : same_terminal m terminals.LeftBracket ≡ false
  pub dot : same_terminal m terminals.Dot ≡ false
  pub paren : same_terminal m terminals.LeftParenthesis ≡ false
  pub and : same_terminal m terminals.And ≡ false
  pub less : same_terminal m terminals.Less ≡ false
  pub plus : same_terminal m terminals.Plus ≡ false
  pub minus : same_terminal m terminals.Minus ≡ false
  pub star : same_terminal m terminals.Times ≡ false

-- an expression of tier d that ends before place j doesn't go on there
pub record Stops (ts : List Token) (d j : ℕ) : Type 0 where
  pub bracket : has ts j terminals.LeftBracket ≡ false
  pub dot : has ts j terminals.Dot ≡ false
  pub paren : has ts j terminals.LeftParenthesis ≡ false
  pub operator : (k : ℕ) → k < d → operator_at ts j k ≡ None

pub none_here : (ts : List Token) (j : ℕ) → has ts j terminals.And ≡ false → has ts j terminals.Less ≡ false → has ts j terminals.Plus ≡ false → has ts j terminals.Minus ≡ false → has ts j terminals.Times ≡ false → operator_here ts j ≡ None
unfolding operator_here
none_here ts j a b c d e = rw (operator_here, a, b, c, d, e) refl

pub stops_closer : (ts : List Token) (d j : ℕ) (m : Terminal) → has ts j m ≡ true → IsCloser m → Stops ts d j
stops_closer ts d j m h c = record {
  bracket = has_other ts j m terminals.LeftBracket h c.bracket;
  dot = has_other ts j m terminals.Dot h c.dot;
  paren = has_other ts j m terminals.LeftParenthesis h c.paren;
  operator = λ k lt. ap (of_tier k) (none_here ts j (has_other ts j m terminals.And h c.and) (has_other ts j m terminals.Less h c.less) (has_other ts j m terminals.Plus h c.plus) (has_other ts j m terminals.Minus h c.minus) (has_other ts j m terminals.Times h c.star));
}

pub here_is : (ts : List Token) (j : ℕ) (o : Operator) → has ts j (terminal_of o) ≡ true → operator_here ts j ≡ Some o
unfolding operator_here
here_is ts j And h = rw (operator_here, h) refl
here_is ts j Less h = rw (operator_here, has_other ts j terminals.Less terminals.And h refl, h) refl
here_is ts j Plus h = rw (operator_here, has_other ts j terminals.Plus terminals.And h refl, has_other ts j terminals.Plus terminals.Less h refl, h) refl
here_is ts j Minus h = rw (operator_here, has_other ts j terminals.Minus terminals.And h refl, has_other ts j terminals.Minus terminals.Less h refl, has_other ts j terminals.Minus terminals.Plus h refl, h) refl
here_is ts j Times h = rw (operator_here, has_other ts j terminals.Times terminals.And h refl, has_other ts j terminals.Times terminals.Less h refl, has_other ts j terminals.Times terminals.Plus h refl, has_other ts j terminals.Times terminals.Minus h refl, h) refl

pub at_is : (ts : List Token) (j : ℕ) (o : Operator) → has ts j (terminal_of o) ≡ true → operator_at ts j (tier_of o) ≡ Some o
at_is ts j And h = ap (of_tier 4) (here_is ts j And h)
at_is ts j Less h = ap (of_tier 3) (here_is ts j Less h)
at_is ts j Plus h = ap (of_tier 2) (here_is ts j Plus h)
at_is ts j Minus h = ap (of_tier 2) (here_is ts j Minus h)
at_is ts j Times h = ap (of_tier 1) (here_is ts j Times h)

other_tier : (k : ℕ) (o : Operator) → k < tier_of o → of_tier k (Some o) ≡ None
other_tier k o lt = rw (ne_eqb (tier_of o) k (λ e. omega arith)) refl

pub stops_operator : (ts : List Token) (j : ℕ) (o : Operator) → has ts j (terminal_of o) ≡ true → Stops ts (tier_of o) j
stops_operator ts j o h = record {
  bracket = has_other ts j (terminal_of o) terminals.LeftBracket h (at_bracket o);
  dot = has_other ts j (terminal_of o) terminals.Dot h (at_dot o);
  paren = has_other ts j (terminal_of o) terminals.LeftParenthesis h (at_paren o);
  operator = λ k lt. ap (of_tier k) (here_is ts j o h) ∙ other_tier k o lt;
}
  where
    at_bracket : (o : Operator) → same_terminal (terminal_of o) terminals.LeftBracket ≡ false
    at_bracket And = refl
    at_bracket Less = refl
    at_bracket Plus = refl
    at_bracket Minus = refl
    at_bracket Times = refl

    at_dot : (o : Operator) → same_terminal (terminal_of o) terminals.Dot ≡ false
    at_dot And = refl
    at_dot Less = refl
    at_dot Plus = refl
    at_dot Minus = refl
    at_dot Times = refl

    at_paren : (o : Operator) → same_terminal (terminal_of o) terminals.LeftParenthesis ≡ false
    at_paren And = refl
    at_paren Less = refl
    at_paren Plus = refl
    at_paren Minus = refl
    at_paren Times = refl
