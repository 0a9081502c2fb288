-- What a run is told.
use Rattle.std.specs.Prelude.{◌≡◌, ◌≢◌, ◌<◌, ◌≤◌, ℕ, List, [], ◌∷◌, ◌++◌, ◌⊎◌, take, length, slice_index, slice_get, Some, EachIndex}
use Rattle.std.specs.List.{AllByRecursion}
use Rattle.redgreen_rules.specs.Programs.{Key, Value}
use Rattle.redgreen_rules.specs.Sessions as rules
use Rattle.redgreen_rules.specs.Runs.{Told, IsIn}
use Rattle.redgreen_sessions.specs.declared.record.Record.{Record}
use Rattle.redgreen_sessions.specs.Views.{mark_of, tell_at, told_at}

-- the first ones of these reads
abbrev pub told_first : List Record → List ℕ → ℕ → List Told
told_first records reads count = told_at records (take count reads)

-- the key wasn't told
abbrev pub IsUntold : List Told → Key → Type 0
IsUntold told k = AllByRecursion (λ t. t.key ≢ k) told

-- this answer is told for the first time, or again
abbrev pub Tells : List Told → Key → Value → List Told → Type 0
Tells old k v new = (IsUntold old k × (new ≡ old ++ record { key = k; value = v } ∷ [])) ⊎ ((new ≡ old) × IsIn old (record { key = k; value = v }))

-- no read up to this one is of the key
abbrev pub IsStrange : List Record → List ℕ → ℕ → Key → Type 0
IsStrange records reads i k = (j : ℕ) → j < length reads → j ≤ i → (tell_at records (slice_index reads j)).key ≢ k

-- all places are of records
abbrev pub AreInside : List Record → List ℕ → Type 0
AreInside records reads = EachIndex reads (λ k. slice_index reads k < length records)

-- no two places are of records with one key
abbrev pub AreOnce : List Record → List ℕ → Type 0
AreOnce records reads =
    (i j : ℕ) → i < j → j < length reads
    → (tell_at records (slice_index reads i)).key ≢ (tell_at records (slice_index reads j)).key

abbrev pub AreAllInside : List Record → Type 0
AreAllInside records = (i : ℕ) (r : Record) → slice_get records i ≡ Some r → AreInside records r.reads.items

-- what a client may be asked to run
abbrev pub AreAllOnce : List Record → Type 0
AreAllOnce records = (i : ℕ) (r : Record) → slice_get records i ≡ Some r → mark_of r.mark ≡ rules.Executed → AreOnce records r.reads.items
