-- A value changes at one place of a graph in memory.
use Rattle.std.specs.Prelude.{◌≡◌, ◌≢◌, ◌⊎◌, ℕ, List, map, Contains}
use Rattle.item_ids.specs.declared.key.Key.{Key}
use Rattle.result_bytes.specs.declared.value.Value.{Value}
use Rattle.recorder.specs.Backed.{ReadValue}
use Rattle.recorder.specs.Programs.{Prog}
use Rattle.keeping.specs.Follows.{Follows}
use Rattle.keeping.specs.Kept.{KeptBy}

-- the key at a place, with its value
abbrev pub read_at : (ℕ → Key) → (ℕ → Value) → ℕ → ReadValue
read_at key value e = record { key = key e; value = value e }

-- the keys at these places, with their values
abbrev pub told_at : (ℕ → Key) → (ℕ → Value) → List ℕ → List ReadValue
told_at key value es = map (read_at key value) es

-- these places have other keys than one place
abbrev pub AreApartFrom : (ℕ → Key) → ℕ → List ℕ → Type 0
AreApartFrom key at es = (e : ℕ) → Contains es e → e ≢ at → key e ≢ key at

-- A value followed from these places, and only the one at a place changes. It follows from the values of now if
-- that place is none of them, if its value stays after all, or if the change keeps the value that followed.
abbrev pub ReaderLaw : Type 0
ReaderLaw =
    (prog : Prog) (key : ℕ → Key) (old new : ℕ → Value) (at : ℕ) (es : List ℕ) (v : Value)
    → ((e : ℕ) → Contains es e → e ≢ at → new e ≡ old e)
    → (Contains es at
    → (new at ≡ old at) ⊎ (AreApartFrom key at es × KeptBy prog (key at) (old at) (new at) v))
    → Follows prog (told_at key old es) v → Follows prog (told_at key new es) v
