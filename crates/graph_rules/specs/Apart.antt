-- Results that share a fingerprint.
use Rattle.std.specs.Prelude.{◌≡◌, List, Some, Contains}
use Rattle.item_ids.specs.declared.key.Key.{Key}
use Rattle.result_bytes.specs.declared.value.Value.{Value}
use Rattle.result_bytes.specs.Values.{canon}
use Rattle.fingerprint.specs.Prints.{print_of}
use Rattle.sessions.specs.Sessions.{Entry}
use Rattle.graph_rules.specs.Pasts.{Past}

-- a session has this result
pub record HasResult (now : Past) (v : Value) : Type 0 where
  pub key : Key
  pub entry : Entry
  pub has : now key ≡ Some entry
  pub value : entry.value ≡ v

-- No two different results, one of each of two sessions, share a fingerprint: those that share one have
-- the same bytes.
abbrev pub AreApartFrom : Past → Past → Type 0
AreApartFrom past now =
    (v w : Value) → HasResult past v → HasResult now w → print_of v ≡ print_of w → canon v ≡ canon w

-- of the values of a session and of these entries no two that differ share a fingerprint
abbrev pub HasNoClash : Past → List Entry → Type 0
HasNoClash past entries =
    (q : Key) (r x : Entry) → past q ≡ Some r → Contains entries x
    → print_of r.value ≡ print_of x.value → r.value ≡ x.value
