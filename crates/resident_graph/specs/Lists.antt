-- What lists say of a graph in memory.
use Rattle.std.specs.Prelude.{◌≡◌, ◌≢◌, ℕ, ◌<◌, Bool, true, false, List, [], map, slice_index_or, length, Contains, Vec}
use Rattle.std.proofs.Common.{sym, subst}
use Rattle.std.specs.Arc.{arc_value}
use Rattle.std.specs.declared.alloc.Global.{Global}
use Rattle.std.specs.declared.sync.Arc.{Arc}
use Rattle.item_ids.specs.declared.key.Key.{Key}
use Rattle.item_ids.specs.declared.key.Key.TheVariants.{Files}
use Rattle.item_ids.specs.Inputs.{rank}
use Rattle.result_bytes.specs.declared.value.Value.{Value}
use Rattle.result_bytes.specs.declared.value.Value.TheVariants as values

-- the key at a place
abbrev pub key_in : List Key → ℕ → Key
key_in ks i = slice_index_or ks i Files

-- the value at a place
abbrev pub value_in : List (Arc Value Global) → ℕ → Value
value_in vs i = slice_index_or (map (λ a. arc_value a) vs) i (values.Files [])

-- the places that a list has for a place
abbrev pub list_in : List (Vec ℕ Global) → ℕ → List ℕ
list_in es i = slice_index_or (map (λ e. e.items) es) i []

-- the flag of a place
abbrev pub flag_in : List Bool → ℕ → Bool
flag_in qs i = slice_index_or qs i false

-- each list has all that it had
abbrev pub Widens : List (Vec ℕ Global) → List (Vec ℕ Global) → Type 0
Widens old new = (j i : ℕ) → Contains (list_in old j) i → Contains (list_in new j) i

-- each list has all that it had, but for one place
abbrev pub WidensBut : ℕ → List (Vec ℕ Global) → List (Vec ℕ Global) → Type 0
WidensBut at old new =
    (j i : ℕ) → i ≢ at → Contains (list_in old j) i → Contains (list_in new j) i

-- what is queued stays so
abbrev pub AreNoFewer : List Bool → List Bool → Type 0
AreNoFewer old new = (i : ℕ) → flag_in old i ≡ true → flag_in new i ≡ true

-- each place that is queued is in the level of its key's rank
abbrev pub IsQueue : List Key → List Bool → List (Vec ℕ Global) → Type 0
IsQueue ks queued queue =
    (i : ℕ) → flag_in queued i ≡ true → Contains (list_in queue (rank (key_in ks i))) i

-- the edges of a place have it among their readers
abbrev pub AreLinked : List (Vec ℕ Global) → List (Vec ℕ Global) → ℕ → Type 0
AreLinked edges readers at =
    (e : ℕ) → e < length readers → Contains (list_in edges at) e → Contains (list_in readers e) at

-- a place has the key, with this value
pub record IsAnswer (ks : List Key) (vs : List (Arc Value Global)) (q : Key) (v : Value)
    : Type 0 where
  pub place : ℕ
  pub within : place < length ks
  pub key : key_in ks place ≡ q
  pub value : value_in vs place ≡ v

pub answer_kept : (ks ls : List Key) (vs ws : List (Arc Value Global)) (q : Key) (v : Value)
    → ls ≡ ks → ws ≡ vs → IsAnswer ks vs q v → IsAnswer ls ws q v
answer_kept ks ls vs ws q v e f a =
    subst (λ (l : List Key). IsAnswer l ws q v) (sym e)
    (subst (λ (w : List (Arc Value Global)). IsAnswer ks w q v) (sym f) a)
