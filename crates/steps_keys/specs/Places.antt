-- Where items stand in a list, by their keys.
use Rattle.std.specs.Prelude.{◌≡◌, ◌≢◌, ℕ, ◌<◌, List, length, Option, Some, None, if◌then◌else◌}
use Rattle.std.specs.List.{AllByRecursion, HoldsAt}
use Rattle.std.specs.Ordering.{is_eq}
use Rattle.steps_keys.specs.declared.key.Key.{Key}
use Rattle.steps_keys.specs.Keys.{key_cmp}

-- no item has the key
abbrev pub IsMissing : {A : Type 0} → (A → Key) → List A → Key → Type 0
IsMissing key xs k = AllByRecursion (λ x. key x ≢ k) xs

-- an item with the key stands there, or none anywhere
abbrev pub IsPlace : {A : Type 0} → (A → Key) → List A → Key → Option ℕ → Type 0
IsPlace key xs k None = IsMissing key xs k
IsPlace key xs k (Some i) = (i < length xs) × HoldsAt (λ x. key x ≡ k) xs i

-- each key has a place where an item has it
abbrev pub ArePlaces : {A : Type 0} → (A → Key) → List A → (Key → Option ℕ) → Type 0
ArePlaces key xs place = (k : Key) → IsPlace key xs k (place k)

-- the place that there is, else i for the key k
abbrev place_or : Option ℕ → Key → ℕ → Key → Option ℕ
place_or (Some j) k i q = Some j
place_or None k i q = if is_eq (key_cmp k q) then Some i else None

-- the places with i for the key k, unless it has one
abbrev pub with_place : (Key → Option ℕ) → Key → ℕ → Key → Option ℕ
with_place place k i q = place_or (place q) k i q
