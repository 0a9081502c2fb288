-- Lists of the kinds that an error may have: when they are empty.
use Rattle.std.proofs.Common.{◌≡◌, Bool, true, false, [], ◌∷◌, refl, ap, true≢false}
use Rattle.clap.specs.Kinds.{or_else}
use Rattle.clap.specs.Words.{Kinds}
use Rattle.clap.specs.declared.error.ErrorKind.{ErrorKind}

-- there is an error
abbrev pub IsFault : Kinds → Type 0
IsFault kinds = kinds ≡ [] → ⊥

abbrev has_kind : Kinds → Bool
has_kind [] = false
has_kind (kind ∷ rest) = true

pub is_fault : (kind : ErrorKind) (rest : Kinds) → IsFault (kind ∷ rest)
is_fault kind rest none = true≢false (ap has_kind none)

pub first_fault : (first next : Kinds) → IsFault first → IsFault (or_else first next)
first_fault [] next fault none = fault refl
first_fault (kind ∷ rest) next fault none = fault none

pub next_fault : (first next : Kinds) → IsFault next → IsFault (or_else first next)
next_fault [] next fault none = fault none
next_fault (kind ∷ rest) next fault none = is_fault kind rest none

-- there is none if there is neither the one nor the other
pub no_faults : (first next : Kinds) → or_else first next ≡ [] → (first ≡ []) × (next ≡ [])
no_faults [] next none = (refl, none)
no_faults (kind ∷ rest) next none = absurd (is_fault kind rest none)
