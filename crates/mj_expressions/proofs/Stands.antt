-- What stands at a place is what reading tests.
use Rattle.std.proofs.Common.{◌≡◌, ℕ, ◌<◌, true, false, List, [], ◌∷◌, length, Option, Some, None, refl, sym, ap, ◌∙◌, ◌⊎◌, inl, inr, eq-eqb}
use Rattle.std.specs.Prelude.{◌&&◌, slice_get, if◌then◌else◌}
use Rattle.std.proofs.lemmas.Bool.{eqb-true, and_parts}
use Rattle.mj_lexer.specs.declared.token.Token.{Token}
use Rattle.mj_lexer.specs.declared.token.Terminal.{Terminal}
use Rattle.mj_lexer.specs.declared.token.Terminal.TheVariants.{LeftBrace, RightBrace, LeftParenthesis, RightParenthesis, LeftBracket, RightBracket, Semicolon, Comma, Dot, Assign, And, Less, Plus, Minus, Times, Not, Class, Public, Static, Void, Extends, Return, Int, Boolean, If, Else, While, True, False, This, New}
use Rattle.mj_lexer.specs.declared.token.TokenKind.{TokenKind}
use Rattle.mj_lexer.specs.declared.token.TokenKind.TheVariants as kinds
use Rattle.mj_expressions.specs.Tokens.{terminal_number, same_terminal, is_terminal, kind_at, has, Stands, StandsLaw}
use Rattle.mj_expressions.specs.Steps.{when}
use Rattle.mj_expressions.proofs.Binds.{if_some, when_some}
use Rattle.mj_expressions.proofs.Marks.{has_within}

-- the terminals by their numbers
abbrev all_terminals : List Terminal
all_terminals =
    LeftBrace ∷ RightBrace ∷ LeftParenthesis ∷ RightParenthesis ∷ LeftBracket ∷ RightBracket ∷ Semicolon ∷ Comma ∷ Dot ∷ Assign ∷ And ∷ Less ∷
    Plus ∷ Minus ∷ Times ∷ Not ∷ Class ∷ Public ∷ Static ∷ Void ∷ Extends ∷ Return ∷ Int ∷ Boolean ∷
    If ∷ Else ∷ While ∷ True ∷ False ∷ This ∷ New ∷ []

terminal_at_number : (terminal : Terminal) → slice_get all_terminals (terminal_number terminal) ≡ Some terminal
terminal_at_number LeftBrace = refl
terminal_at_number RightBrace = refl
terminal_at_number LeftParenthesis = refl
terminal_at_number RightParenthesis = refl
terminal_at_number LeftBracket = refl
terminal_at_number RightBracket = refl
terminal_at_number Semicolon = refl
terminal_at_number Comma = refl
terminal_at_number Dot = refl
terminal_at_number Assign = refl
terminal_at_number And = refl
terminal_at_number Less = refl
terminal_at_number Plus = refl
terminal_at_number Minus = refl
terminal_at_number Times = refl
terminal_at_number Not = refl
terminal_at_number Class = refl
terminal_at_number Public = refl
terminal_at_number Static = refl
terminal_at_number Void = refl
terminal_at_number Extends = refl
terminal_at_number Return = refl
terminal_at_number Int = refl
terminal_at_number Boolean = refl
terminal_at_number If = refl
terminal_at_number Else = refl
terminal_at_number While = refl
terminal_at_number True = refl
terminal_at_number False = refl
terminal_at_number This = refl
terminal_at_number New = refl

same_is : (t u : Terminal) → same_terminal t u ≡ true → u ≡ t
same_is t u e =
    let n : terminal_number t ≡ terminal_number u = eqb-true (terminal_number t) (terminal_number u) e in
    let a : Some u ≡ Some t = sym (terminal_at_number u) ∙ ap (slice_get all_terminals) (sym n) ∙ terminal_at_number t in
    cc

terminal_there : (t : Terminal) (k : Option TokenKind) → is_terminal t k ≡ true → k ≡ Some (kinds.Terminal t)
terminal_there t None h = absurd cc
terminal_there t (Some (kinds.Identifier name)) h = absurd cc
terminal_there t (Some (kinds.Literal value)) h = absurd cc
terminal_there t (Some (kinds.Terminal u)) h = ap (λ (x : Terminal). Some (kinds.Terminal x)) (same_is t u h)

there_terminal : (t : Terminal) (k : Option TokenKind) → k ≡ Some (kinds.Terminal t) → is_terminal t k ≡ true
there_terminal t k e = rw e (eq-eqb (terminal_number t) (terminal_number t) refl)

pub stands : (ts : List Token) (i : ℕ) (t : Terminal) → has ts i t ≡ true → Stands ts i t
unfolding has Stands
stands ts i t h = terminal_there t (kind_at ts i) h

pub has_is : (ts : List Token) (i : ℕ) (t : Terminal) → Stands ts i t → has ts i t ≡ true
unfolding has Stands
has_is ts i t s = there_terminal t (kind_at ts i) s

pub stands_law : StandsLaw
stands_law ts i t = (has_is ts i t, stands ts i t)

pub stands_within : (ts : List Token) (i : ℕ) (t : Terminal) → Stands ts i t → i < length ts
stands_within ts i t s = has_within ts i t (has_is ts i t s)

-- a step that found something if this stands, or if it doesn't
pub when_stands : {A : Type 0} (ts : List Token) (i : ℕ) (t : Terminal) (o : Option A) (y : A) → when (has ts i t) o ≡ Some y → Stands ts i t × (o ≡ Some y)
when_stands ts i t o y e = let w = when_some (has ts i t) o y e in (stands ts i t w.0, w.1)

pub if_stands : {A : Type 0} (ts : List Token) (i : ℕ) (t : Terminal) (o p : Option A) (y : A) → (if has ts i t then o else p) ≡ Some y
    → (Stands ts i t × (o ≡ Some y)) ⊎ ((has ts i t ≡ false) × (p ≡ Some y))
if_stands ts i t o p y e = elim (if_some (has ts i t) o p y e) [ inl a ↦ inl (stands ts i t a.0, a.1) | inr a ↦ inr a ]

pub both_stand : (ts : List Token) (i : ℕ) (t : Terminal) (j : ℕ) (u : Terminal) → (has ts i t && has ts j u) ≡ true → Stands ts i t × Stands ts j u
both_stand ts i t j u e = let b = and_parts (has ts i t) (has ts j u) e in (stands ts i t b.0, stands ts j u b.1)
