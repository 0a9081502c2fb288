-- What a graph in memory keeps.
use Rattle.std.specs.Prelude.{◌≡◌, ◌≢◌, ◌⊎◌, ℕ, ◌<◌, Bool, false, List, [], ◌∷◌, ◌++◌, length, Vec}
use Rattle.std.specs.declared.alloc.Global.{Global}
use Rattle.std.specs.declared.sync.Arc.{Arc}
use Rattle.item_ids.specs.declared.key.Key.{Key}
use Rattle.result_bytes.specs.declared.value.Value.{Value}
use Rattle.recorder.specs.Projects.{Project}
use Rattle.recorder.specs.Programs.{Prog}
use Rattle.resident_graph.specs.Places.{Places, Holds}
use Rattle.resident_graph.specs.Lists.{key_in, value_in, list_in, flag_in, IsQueue}
use Rattle.resident_graph.specs.declared.graph.Graph.{Graph}

-- what lists know of places
abbrev pub places_in : List Key → List (Arc Value Global) → List (Vec ℕ Global)
    → List (Vec ℕ Global) → List Bool → Places
places_in ks vs es rs qs = record {
  count = length ks;
  key = key_in ks;
  value = value_in vs;
  edges = list_in es;
  readers = list_in rs;
  queued = flag_in qs;
}

-- each list has an item for each key
pub record AreAligned (ks : List Key) (vs : List (Arc Value Global)) (es rs : List (Vec ℕ Global))
    (qs : List Bool) : Type 0 where
  pub values : length vs ≡ length ks
  pub edges : length es ≡ length ks
  pub readers : length rs ≡ length ks
  pub queued : length qs ≡ length ks

pub record Keeps (prog_of : Key → Prog) (p : Project) (ks : List Key)
    (vs : List (Arc Value Global)) (es rs : List (Vec ℕ Global)) (qs : List Bool)
    (line : List (Vec ℕ Global)) : Type 0 where
  pub aligned : AreAligned ks vs es rs qs
  pub queue : IsQueue ks qs line
  pub holds : Holds prog_of p (places_in ks vs es rs qs)

abbrev pub KeepsGraph : (Key → Prog) → Project → Graph → Type 0
KeepsGraph prog_of p g =
    Keeps prog_of p g.keys.keys g.values.items g.edges.items g.readers.items g.queued.items
    g.queue.items

-- The graph has one more place, for a key that it didn't have.
pub record AddsNode (key : Key) (sealed : Arc Value Global) (edges readers : Vec ℕ Global)
    (old new : Graph) : Type 0 where
  pub absent : (i : ℕ) → i < length old.keys.keys → key_in old.keys.keys i ≢ key
  pub keys : new.keys.keys ≡ old.keys.keys ++ key ∷ []
  pub values : new.values.items ≡ old.values.items ++ sealed ∷ []
  pub edge_lists : new.edges.items ≡ old.edges.items ++ edges ∷ []
  pub reader_lists : new.readers.items ≡ old.readers.items ++ readers ∷ []
  pub queued : new.queued.items ≡ old.queued.items ++ false ∷ []
  pub queue : new.queue.items ≡ old.queue.items

pub record IsSame (old new : Graph) : Type 0 where
  pub keys : new.keys.keys ≡ old.keys.keys
  pub values : new.values.items ≡ old.values.items
  pub edges : new.edges.items ≡ old.edges.items
  pub readers : new.readers.items ≡ old.readers.items
  pub queued : new.queued.items ≡ old.queued.items
  pub queue : new.queue.items ≡ old.queue.items

abbrev pub IsPushed : Key → Arc Value Global → Vec ℕ Global → Vec ℕ Global → Graph → Graph → Type 0
IsPushed key sealed edges readers old new =
    IsSame old new ⊎ AddsNode key sealed edges readers old new
