-- Which fault a number and records have.
use Rattle.std.specs.Prelude.{◌≡◌, ℕ, ◌+◌, ◌<◌, ◌≤◌, List, length, take, slice_index_or}
use Rattle.item_ids.specs.declared.key.Key.{Key}
use Rattle.result_bytes.specs.Values.{IsOfKind}
use Rattle.sessions.specs.declared.fault.SessionFault.{SessionFault}
use Rattle.sessions.specs.declared.fault.SessionFault.TheVariants.{Number, KeyOrder, InputKind, BadEdge, Result, OutOfMemory}
use Rattle.sessions.specs.Sessions.{RecordValue, IsAbove, IsMarked, AreRecords, most_number}
use Rattle.sessions.specs.Edges.{AreEdges}

-- j is the place of the first edge that is none, or was there before
pub record IsFirstBadEdge (front : List RecordValue) (key : Key) (edges : List ℕ)
    (j : ℕ) : Type 0 where
  pub inside : j < length edges
  pub before : AreEdges front key (take j edges)
  pub bad : ¬ AreEdges front key (take (j + 1) edges)

-- the first fault of a record behind those in front of it
abbrev pub RefusesRecord : List RecordValue → RecordValue → SessionFault → Type 0
RefusesRecord front r (KeyOrder i) = (i ≡ length front) × (¬ IsAbove front r.key)
RefusesRecord front r (InputKind i) = (i ≡ length front) × IsAbove front r.key × (¬ IsMarked r)
RefusesRecord front r (BadEdge i j) =
    (i ≡ length front) × IsAbove front r.key × IsMarked r × IsFirstBadEdge front r.key r.edges j
RefusesRecord front r (Result i) =
    (i ≡ length front) × IsAbove front r.key × IsMarked r × AreEdges front r.key r.edges
    × (¬ IsOfKind r.key r.value)
RefusesRecord front r Number = ⊥
RefusesRecord front r OutOfMemory = ⊥

-- the fault of the first record that doesn't fit behind those in front of it
pub record RefusesRecords (records : List RecordValue) (fault : SessionFault) : Type 0 where
  pub index : ℕ
  pub inside : index < length records
  pub before : AreRecords (take index records)
  pub refused : (r : RecordValue) → RefusesRecord (take index records)
      (slice_index_or records index r) fault

-- the number is looked at first
abbrev pub IsRefused : ℕ → List RecordValue → SessionFault → Type 0
IsRefused number records Number = most_number < number
IsRefused number records OutOfMemory = number ≤ most_number
IsRefused number records fault = (number ≤ most_number) × RefusesRecords records fault

-- a fact, unless memory ran out
abbrev pub HoldsUnlessMemory : SessionFault → Type 0 → Type 0
HoldsUnlessMemory OutOfMemory P = Unit {0}
HoldsUnlessMemory fault P = P
