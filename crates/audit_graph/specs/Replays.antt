-- Sessions whose executed keys follow from their edges, for which every key has its meaning.
use Rattle.std.specs.Prelude.{◌≡◌, ◌<◌, Bool, true, List, Some}
use Rattle.std.specs.List.{AllByRecursion}
use Rattle.std.specs.Ordering.{is_lt}
use Rattle.item_ids.specs.declared.key.Key.{Key}
use Rattle.item_ids.specs.Keys.{key_cmp}
use Rattle.item_ids.specs.Inputs.{rank}
use Rattle.fingerprint.specs.Prints.{print_of}
use Rattle.recorder.specs.Backed.{Meaning, ReadLists, ReadValue, keys, Backed}
use Rattle.sessions.specs.declared.mark.Mark.TheVariants.{Executed}
use Rattle.sessions.specs.Sessions.{Entry}
use Rattle.graph_rules.specs.Pasts.{Past}

-- no two values of the two sessions that differ share a fingerprint
abbrev pub AreValuesApart : Past → Past → Type 0
AreValuesApart past now =
    (k q : Key) (a b : Entry) → past k ≡ Some a → now q ≡ Some b
    → print_of a.value ≡ print_of b.value → a.value ≡ b.value

-- the session holds this answer
abbrev pub IsHeld : Past → ReadValue → Type 0
IsHeld now t = (x : Entry) × (now t.key ≡ Some x) × (x.value ≡ t.value)

-- the value follows from answers that are the values of the edges, in their order
pub record FollowsFromEdges (mean : Meaning) (reads : ReadLists) (now : Past)
    (r : Entry) : Type 0 where
  pub told : List ReadValue
  pub edges : keys told ≡ r.reads
  pub held : AllByRecursion (IsHeld now) told
  pub backed : Backed mean reads r.key told r.value

-- keys that pass a test, and with each of them all keys of lower rank
abbrev pub AreWithLower : (Key → Bool) → Type 0
AreWithLower front = (q e : Key) → front q ≡ true → rank e < rank q → front e ≡ true

-- whether a key comes before k
abbrev pub is_before : Key → Key → Bool
is_before k q = is_lt (key_cmp q k)

-- the executed ones among the keys that pass follow from their edges
abbrev pub AreReplayed : Meaning → ReadLists → Past → (Key → Bool) → Type 0
AreReplayed mean reads now front =
    (q : Key) (r : Entry) → front q ≡ true → now q ≡ Some r → r.mark ≡ Executed
    → FollowsFromEdges mean reads now r
