-- What is checked of each record, by its place.
use Rattle.std.specs.Prelude.{◌≡◌, ◌≢◌, ◌<◌, ℕ, List, [], ◌∷◌, ◌++◌, map, EachIndex, slice_index, slice_get, Option, Some, None}
use Rattle.std.specs.List.{AllByRecursion}
use Rattle.redgreen_rules.specs.Sessions as rules
use Rattle.redgreen_sessions.specs.declared.record.Mark.{Mark}
use Rattle.redgreen_sessions.specs.declared.record.Mark.TheVariants.{Input, Green, Executed}
use Rattle.redgreen_sessions.specs.declared.record.Record.{Record}
use Rattle.redgreen_sessions.specs.Marks.{previous_of}
use Rattle.redgreen_sessions.specs.Views.{mark_of}

-- the places come before this one
abbrev pub AreEarlier : List ℕ → ℕ → Type 0
AreEarlier reads at = EachIndex reads (λ k. slice_index reads k < at)

-- no record has the key of an earlier one
abbrev pub HaveNew : List Record → List Record → Type 0
HaveNew front [] = Unit {0}
HaveNew front (r ∷ rest) = AllByRecursion (λ (a : Record). a.key ≢ r.key) front × HaveNew (front ++ r ∷ []) rest

-- no place is an earlier one
abbrev pub HaveOnce : List ℕ → List ℕ → Type 0
HaveOnce front [] = Unit {0}
HaveOnce front (x ∷ rest) = AllByRecursion (λ (a : ℕ). a ≢ x) front × HaveOnce (front ++ x ∷ []) rest

-- ---- reads

-- an input reads nothing; else the reads are earlier records, and of an executed record each is there once
abbrev pub HasReads : ℕ → Record → Mark → Type 0
HasReads at r (Input previous) = r.reads.items ≡ []
HasReads at r (Green place) = AreEarlier r.reads.items at
HasReads at r (Executed previous) = AreEarlier r.reads.items at × HaveOnce [] r.reads.items

-- ---- unchanged records

-- at this place the previous session has a record with the same key and the same value
pub record IsUnchangedAt (past : List Record) (place : ℕ) (item : Record) : Type 0 where
  pub had : Record
  pub here : slice_get past place ≡ Some had
  pub key : had.key ≡ item.key
  pub value : had.value ≡ item.value

-- the same, if a place is named
abbrev pub IsUnchanged : List Record → Record → Option ℕ → Type 0
IsUnchanged past item None = Unit {0}
IsUnchanged past item (Some place) = IsUnchangedAt past place item

-- ---- green records

abbrev pub previous_in : Option Record → Option ℕ
previous_in None = None
previous_in (Some r) = previous_of r.mark

-- the place that the record at a place names of the previous session
abbrev pub previous_at : List Record → ℕ → Option ℕ
previous_at now place = previous_in (slice_get now place)

abbrev pub named : ℕ → Option ℕ
named place = Some place

-- At this place the previous session has no input, and what that record read is what this one reads: the records that it
-- reads name just those places.
pub record IsTakenFrom (past now : List Record) (place : ℕ) (item : Record) : Type 0 where
  pub had : Record
  pub here : slice_get past place ≡ Some had
  pub no_input : mark_of had.mark ≢ rules.Input
  pub reads : map (previous_at now) item.reads.items ≡ map named had.reads.items

abbrev pub IsGreenBy : List Record → List Record → Record → Mark → Type 0
IsGreenBy past now r (Input previous) = Unit {0}
IsGreenBy past now r (Green place) = IsTakenFrom past now place r
IsGreenBy past now r (Executed previous) = Unit {0}

-- ---- all of a record but its key and its run

pub record PassesAt (past now : List Record) (at : ℕ) (r : Record) : Type 0 where
  pub reads : HasReads at r r.mark
  pub unchanged : IsUnchanged past r (previous_of r.mark)
  pub green : IsGreenBy past now r r.mark

-- each record passes at its place
abbrev pub PassEach : List Record → List Record → Type 0
PassEach past now = (i : ℕ) (r : Record) → slice_get now i ≡ Some r → PassesAt past now i r
