-- Edges of a record, one after the other.
use Rattle.std.specs.Prelude.{◌≡◌, ◌≢◌, ℕ, ◌<◌, ◌==◌, Bool, true, false, List, map, length, slice_index_or}
use Rattle.std.specs.List.{AllByRecursion}
use Rattle.item_ids.specs.declared.key.Key.{Key}
use Rattle.item_ids.specs.KeyLists.{NoneTwice}
use Rattle.sessions.specs.Sessions.{RecordValue, IsEdge}

-- for each record whether it was seen at this turn
abbrev pub seen_in : ℕ → List ℕ → List Bool
seen_in turn last = map (λ at. at == turn) last

-- e is an edge that wasn't seen
abbrev pub IsNewEdge : List Bool → List RecordValue → Key → ℕ → Type 0
IsNewEdge seen front key e = IsEdge front key e × (slice_index_or seen e false ≡ false)

-- the edges of a key behind these records
abbrev pub AreEdges : List RecordValue → Key → List ℕ → Type 0
AreEdges front key edges = AllByRecursion (IsEdge front key) edges × NoneTwice (λ e. e) edges

-- e is none of these
abbrev pub IsNoneOf : List ℕ → ℕ → Type 0
IsNoneOf edges e = AllByRecursion (λ other. other ≢ e) edges

-- what was seen are these edges
pub record AreSeenEdges (seen : List Bool) (edges : List ℕ) : Type 0 where
  pub unseen : (e : ℕ) → e < length seen → slice_index_or seen e false ≡ false → IsNoneOf edges e
  pub seen_one : (e : ℕ) → e < length seen → slice_index_or seen e false ≡ true → ¬ IsNoneOf edges e
