-- Which keys were read for a key, by what is kept of them.
use Rattle.std.specs.Prelude.{ℕ, ◌<◌, List, [], map, length, slice_index_or}
use Rattle.std.specs.Arc.{arc_value}
use Rattle.item_ids.specs.declared.key.Key.{Key}
use Rattle.sessions.specs.Sessions.{RecordValue, key_at}
use Rattle.key_states.specs.declared.edge_keys.KeptKeys.{KeptKeys}
use Rattle.key_states.specs.declared.edge_keys.KeptKeys.TheVariants as kept

-- the edges of the record at an index
abbrev pub edges_at : List RecordValue → ℕ → List ℕ
edges_at records i = slice_index_or (map (λ r. r.edges) records) i []

-- the keys that they lead to
abbrev pub reads_at : List RecordValue → ℕ → List Key
reads_at records i = map (key_at records) (edges_at records i)

-- own keys, or those that a record of the previous session read
abbrev pub keys_in : KeptKeys → List Key
keys_in (kept.Own keys) = keys.items
keys_in (kept.Past past at) = reads_at (arc_value past).records at

-- the previous session has the record
abbrev pub AreThere : KeptKeys → Type 0
AreThere (kept.Own keys) = Unit {0}
AreThere (kept.Past past at) = at < length (arc_value past).records
