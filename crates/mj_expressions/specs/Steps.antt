-- Reading from left to right, step by step: what is found, and the place behind it.
use Rattle.std.specs.Prelude.{◌≡◌, ℕ, zero, suc, ◌+◌, Bool, List, [], ◌∷◌, length, Option, Some, None, option_and_then, if◌then◌else◌, Result, Ok, Err}
use Rattle.mj_lexer.specs.declared.token.Token.{Token}
use Rattle.mj_lexer.specs.declared.token.Terminal.TheVariants as terminals
use Rattle.mj_expressions.specs.declared.fault.ParseFault.{ParseFault}
use Rattle.mj_expressions.specs.declared.fault.ParseFault.TheVariants.{NotAFile, TooDeep, OutOfMemory}
use Rattle.mj_expressions.specs.Tokens.{has}

infixl 10 ◌>>=◌
abbrev pub ◌>>=◌ : {A B : Type 0} → Option A → (A → Option B) → Option B
o >>= f = option_and_then f o

abbrev pub when : {A : Type 0} → Bool → Option A → Option A
when b o = if b then o else None

-- reads something at a place
abbrev pub PartParser : Type 0 → Type 0
PartParser A = ℕ → Option (A × ℕ)

-- parts as long as the test holds
unfoldable pub items_from : {A : Type 0} → ℕ → PartParser A → (ℕ → Bool) → ℕ → Option (List A × ℕ)
items_from zero part goes_on i = None
items_from (suc gas) part goes_on i =
    if goes_on i
    then (part i >>= λ x. items_from gas part goes_on x.1 >>= λ y. Some (x.0 ∷ y.0, y.1))
    else Some ([], i)

-- a comma and a part
abbrev pub behind_comma : {A : Type 0} → PartParser A → PartParser A
behind_comma part i = part (i + 1)

abbrev pub at_comma : List Token → ℕ → Bool
at_comma ts i = has ts i terminals.Comma

abbrev pub more_listed : {A : Type 0} → PartParser A → List Token → A × ℕ → Option (List A × ℕ)
more_listed part ts x =
    items_from (suc (length ts)) (behind_comma part) (at_comma ts) x.1
    >>= λ y. when (has ts y.1 terminals.RightParenthesis) (Some (x.0 ∷ y.0, y.1 + 1))

-- parts with a comma between each two, and the parenthesis that closes them
unfoldable pub listed_at : {A : Type 0} → PartParser A → List Token → ℕ → Option (List A × ℕ)
listed_at part ts i =
    if has ts i terminals.RightParenthesis
    then Some ([], i + 1)
    else (part i >>= more_listed part ts)

-- What a function returned, seen by view, is what reading finds; a refusal says that it finds
-- nothing, unless memory ran out.
abbrev pub FailsToParse : {A : Type 0} → ParseFault → Option A → Type 0
FailsToParse OutOfMemory found = Unit {0}
FailsToParse (NotAFile k) found = found ≡ None
FailsToParse TooDeep found = found ≡ None

abbrev pub Finds : {X A : Type 0} → (X → A) → Result X ParseFault → Option A → Type 0
Finds see (Ok x) found = found ≡ Some (see x)
Finds see (Err e) found = FailsToParse e found
