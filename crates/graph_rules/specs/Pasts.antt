-- What a session holds, key by key.
use Rattle.std.specs.Prelude.{◌≡◌, ℕ, List, Option, Some, option_map, Contains}
use Rattle.item_ids.specs.declared.key.Key.{Key}
use Rattle.item_ids.specs.KeyLists.{AreLower, NoneTwice}
use Rattle.result_bytes.specs.Values.{IsOfKind}
use Rattle.fingerprint.specs.Prints.{print_of}
use Rattle.sessions.specs.Sessions.{Entry}

-- a session, key by key
abbrev pub Past : Type 0
Past = Key → Option Entry

-- the fingerprint of the key's value
abbrev pub print_in : Past → Key → Option (List ℕ)
print_in past q = option_map (λ r. print_of r.value) (past q)

-- What every session keeps: values are of their key's kind, and edges lead to keys of lower rank
-- that it holds, to none twice.
pub record IsGraph (past : Past) : Type 0 where
  pub key : (q : Key) (r : Entry) → past q ≡ Some r → r.key ≡ q
  pub kind : (q : Key) (r : Entry) → past q ≡ Some r → IsOfKind q r.value
  pub lower : (q : Key) (r : Entry) → past q ≡ Some r → AreLower q r.reads
  pub once : (q : Key) (r : Entry) → past q ≡ Some r → NoneTwice (λ k. k) r.reads
  pub closed : (q : Key) (r : Entry) (e : Key) → past q ≡ Some r → Contains r.reads e
      → (x : Entry) × (past e ≡ Some x)
