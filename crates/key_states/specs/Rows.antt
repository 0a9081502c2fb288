-- Keys in order, each with the place where it was found.
use Rattle.std.specs.Prelude.{◌≡◌, ◌↔◌, ℕ, ◌<◌, List, map, length, Contains, slice_index_or}
use Rattle.std.specs.List.{AllByRecursion}
use Rattle.item_ids.specs.declared.key.Key.{Key}
use Rattle.graph_rules.specs.Steps.{State}
use Rattle.key_states.specs.declared.reaching.Found.{Found}
use Rattle.key_states.specs.declared.rows.KeyRow.{KeyRow}
use Rattle.key_states.specs.Reached.{Ascend, EachAt, AreFound, key_in}

abbrev pub keys_of : List KeyRow → List Key
keys_of rows = map (λ r. r.key) rows

-- the row has the key that was found at its place
abbrev pub IsRowOf : List Key → KeyRow → Type 0
IsRowOf ks r = (r.at < length ks) × (r.key ≡ key_in ks r.at)

-- the row at this index is that of the place
abbrev pub IsOfPlace : List KeyRow → ℕ → ℕ → Type 0
IsOfPlace rows i place = (i < length rows) × ((d : KeyRow) → (slice_index_or rows i d).at ≡ place)

-- the rows of these keys, in the order of the keys
pub record AreOrdered (ks : List Key) (rows : List KeyRow) : Type 0 where
  pub each : EachAt (λ i r. IsRowOf ks r) rows
  pub all : (place : ℕ) → place < length ks → (i : ℕ) × IsOfPlace rows i place
  pub count : length rows ≡ length ks
  pub same : (q : Key) → Contains (keys_of rows) q ↔ Contains ks q
  pub ascend : Ascend (keys_of rows)

-- the rank of a place
abbrev pub rank_in : List ℕ → ℕ → ℕ
rank_in ranks place = slice_index_or ranks place 0

-- the rank of each row's place is the index of the row of this place
pub record AreRanks (rows : List KeyRow) (ranks : List ℕ) : Type 0 where
  pub count : length ranks ≡ length rows
  pub each : EachAt (λ i r. IsOfPlace rows (rank_in ranks r.at) r.at) rows

-- the rows' places, and the places of edges, are among these
pub record AreWithin (rows : List KeyRow) (fs : List Found) : Type 0 where
  pub places : EachAt (λ i r. r.at < length fs) rows
  pub edges : EachAt (λ i f. AllByRecursion (λ e. e < length rows) f.edges.items) fs
  pub count : length fs ≡ length rows

-- the rows of keys that were found like this
pub record AreRowsOf (s : State) (rows : List KeyRow) (fs : List Found) : Type 0 where
  pub keys : List Key
  pub ordered : AreOrdered keys rows
  pub found : AreFound s keys fs
  pub count : length fs ≡ length keys
