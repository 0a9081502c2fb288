-- When a reader and a spelling belong together.
use Rattle.std.specs.Prelude.{◌≡◌, ℕ, ◌<◌, ◌^◌, Bool, true, List, [], ◌∷◌, ◌++◌, length, get_or, Ok}
use Rattle.std.specs.List.{AllByRecursion}
use Rattle.byte_readers.specs.Reading.{Decoder}

abbrev pub IsBytes : List ℕ → Type 0
IsBytes bytes = (i : ℕ) → get_or bytes i 0 < 256

-- what a reader took from the front
pub record Takes (bytes text rest : List ℕ) : Type 0 where
  pub parts : bytes ≡ text ++ rest
  pub rest_fits : IsBytes rest

-- what is read is spelled there, and each spelling is read back
pub record Lawful {A : Type 0} (part : Decoder A) (spell : A → List ℕ)
    (Storable : A → Type 0) : Type 0 where
  pub takes : (bytes : List ℕ) (a : A) (rest : List ℕ) → IsBytes bytes → part bytes ≡ Ok (a, rest)
      → Takes bytes (spell a) rest × Storable a
  pub again : (a : A) (rest : List ℕ) → Storable a → part (spell a ++ rest) ≡ Ok (a, rest)

-- each is admitted behind those before it
abbrev pub Admitted : {A : Type 0} → (List A → A → Bool) → List A → List A → Type 0
Admitted admits front [] = Unit {0}
Admitted admits front (a ∷ as1) = (admits front a ≡ true) × Admitted admits (front ++ a ∷ []) as1

-- each item fits and is admitted, and the number of items has a spelling
pub record FitsList {A : Type 0} (P : A → Type 0) (admits : List A → A → Bool)
    (as1 : List A) : Type 0 where
  pub few : length as1 < 2 ^ 64
  pub fit : AllByRecursion P as1
  pub admitted : Admitted admits [] as1
