-- How a closing table finds the keys that it keeps, and what their records are.
use Rattle.std.specs.Prelude.{◌≡◌, ◌↔◌, ℕ, ◌<◌, List, ◌++◌, map, length, Contains, slice_index_or}
use Rattle.std.specs.List.{AllByRecursion}
use Rattle.std.specs.Arc.{arc_value}
use Rattle.item_ids.specs.declared.key.Key.{Key}
use Rattle.item_ids.specs.declared.key.Key.TheVariants.{Files}
use Rattle.result_bytes.specs.declared.value.Value.{Value}
use Rattle.ordered_names.specs.Order.{IsAscendingBy}
use Rattle.recorder.specs.Projects.{Project}
use Rattle.sessions.specs.declared.mark.Mark.{Mark}
use Rattle.sessions.specs.Sessions.{RecordValue, IsRecord}
use Rattle.graph_rules.specs.Steps.{Done, State}
use Rattle.graph_rules.specs.Graphs.{IsRoot, IsReached, KeyBefore}
use Rattle.key_states.specs.Nodes.{Node, status_of}
use Rattle.key_states.specs.Closing.{IsQuiet}
use Rattle.key_states.specs.declared.reaching.Found.{Found}

-- each element is so at its place
abbrev pub EachAt : {A : Type 0} → (ℕ → A → Type 0) → List A → Type 0
EachAt {A} P xs = (i : ℕ) (d : A) → i < length xs → P i (slice_index_or xs i d)

-- no node is claimed or running
abbrev pub AllQuiet : List Node → Type 0
AllQuiet ns = AllByRecursion (λ n. IsQuiet (status_of n.1)) ns

-- the keys are in order, and none is there twice
abbrev pub Ascend : List Key → Type 0
Ascend ks = IsAscendingBy KeyBefore ks

-- the key at a place
abbrev pub key_in : List Key → ℕ → Key
key_in ks i = slice_index_or ks i Files

-- just the roots
abbrev pub AreRoots : Project → List Key → Type 0
AreRoots p ks = (q : Key) → Contains ks q ↔ IsRoot p q

-- just the keys that are reached
abbrev pub AreReached : Project → State → List Key → Type 0
AreReached p s ks = (q : Key) → Contains ks q ↔ IsReached p s q

-- if q is done, the list has all keys that were read for it
abbrev pub HasEdges : State → List Key → Key → Type 0
HasEdges s ks q =
    (v : Value) (es : List Key) (m : Mark) (e : Key) → s.at q ≡ Done v es m → Contains es e
    → Contains ks e

-- the roots and other keys that are reached, among them all that the first i were read for
pub record Spreads (p : Project) (s : State) (ks : List Key) (i : ℕ) : Type 0 where
  pub roots : (q : Key) → IsRoot p q → Contains ks q
  pub only : (q : Key) → Contains ks q → IsReached p s q
  pub closed : (j : ℕ) → j < i → HasEdges s ks (key_in ks j)

-- the list with those of the edges behind it that it hadn't
pub record AddsKeys (old edges new : List Key) : Type 0 where
  pub more : List Key
  pub whole : new ≡ old ++ more
  pub only : (q : Key) → Contains more q → Contains edges q
  pub has : (q : Key) → Contains edges q → Contains new q

-- the key is done like this, with places among these keys for edges
pub record IsFoundAs (s : State) (ks : List Key) (q : Key) (f : Found) : Type 0 where
  pub done : s.at q ≡ Done (arc_value f.sealed.now) (map (key_in ks) f.edges.items) f.mark
  pub inside : AllByRecursion (λ e. e < length ks) f.edges.items

-- how the first of these keys are done
abbrev pub AreFound : State → List Key → List Found → Type 0
AreFound s ks fs = EachAt (λ i f. IsFoundAs s ks (key_in ks i) f) fs

-- the record says how its key is done, with places among these keys for edges
pub record IsDoneRecord (s : State) (ks : List Key) (r : RecordValue) : Type 0 where
  pub done : s.at r.key ≡ Done r.value (map (key_in ks) r.edges) r.mark
  pub inside : AllByRecursion (λ e. e < length ks) r.edges
  pub kept : IsRecord r

-- the records of these keys, in their order
pub record AreDoneRecords (s : State) (ks : List Key) (rs : List RecordValue) : Type 0 where
  pub keys : map (λ r. r.key) rs ≡ ks
  pub each : AllByRecursion (IsDoneRecord s ks) rs
