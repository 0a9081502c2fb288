-- Which records of a session are drawn.
use Rattle.std.specs.Prelude.{◌≡◌, ℕ, ◌<◌, ◌↔◌, Bool, false, List, [], Option, Some, None, Contains, IsTrue, length, map, slice_index_or}
use Rattle.sessions.specs.Sessions.{RecordValue}

-- what the record at an index has read
abbrev pub edges_of_record : List RecordValue → ℕ → List ℕ
edges_of_record records i = slice_index_or (map (λ r. r.edges) records) i []

-- what lies within a record: it, what it has read, what that has read, and so on
pub data LiesWithin (records : List RecordValue) (root : ℕ) : ℕ → Type 0 where
  itself : LiesWithin records root root
  read : (i e : ℕ) → LiesWithin records root i → Contains (edges_of_record records i) e
      → LiesWithin records root e

-- what is drawn: all, or what lies within one record
abbrev pub IsDrawn : List RecordValue → Option ℕ → ℕ → Type 0
IsDrawn records None i = Unit {0}
IsDrawn records (Some root) i = LiesWithin records root i

-- for each record whether it is drawn
pub record AreDrawn (records : List RecordValue) (of : Option ℕ) (drawn : List Bool) : Type 0 where
  pub each : length drawn ≡ length records
  pub exact : (i : ℕ) → i < length records
      → IsTrue (slice_index_or drawn i false) ↔ IsDrawn records of i
