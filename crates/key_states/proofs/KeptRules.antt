-- Keys that past edges lead to.
use Rattle.std.proofs.Common.{◌≡◌, ℕ, ◌<◌, List, [], map, length, get_or, sym, ap, ◌∙◌}
use Rattle.std.proofs.lemmas.List.{get_or-map}
use Rattle.std.proofs.lemmas.List.Elements.{All-from_recursion}
use Rattle.item_ids.specs.declared.key.Key.{Key}
use Rattle.item_ids.specs.declared.key.Key.TheVariants.{Files}
use Rattle.sessions.specs.Sessions.{RecordValue, AreInside, key_at}
use Rattle.key_states.specs.KeptKeys.{edges_at}

-- the key of the record at an index
pub key_here : (rs : List RecordValue) (n : ℕ) (r : RecordValue) → n < length rs → r ≡ get_or rs n r → r.key ≡ key_at rs n
key_here rs n r lt is = ap (λ (x : RecordValue). x.key) is ∙ sym (get_or-map (λ (x : RecordValue). x.key) rs n r Files lt)

-- the key that an edge leads to
pub key_there : (rs : List RecordValue) (es : List ℕ) (i : ℕ) (q : Key) → i < length es → q ≡ key_at rs (get_or es i 0) → q ≡ get_or (map (key_at rs) es) i q
key_there rs es i q lt is = is ∙ sym (get_or-map (key_at rs) es i 0 q lt)

-- an edge leads to a record
pub edge_inside : (rs : List RecordValue) (es : List ℕ) (i : ℕ) → i < length es → AreInside rs es → get_or es i 0 < length rs
edge_inside rs es i lt all = All-from_recursion (λ e. e < length rs) es all i 0 lt

-- the edges of the record at an index
pub edges_there : (rs : List RecordValue) (n : ℕ) (r : RecordValue) → n < length rs → r ≡ get_or rs n r → r.edges ≡ edges_at rs n
edges_there rs n r lt is = ap (λ (x : RecordValue). x.edges) is ∙ sym (get_or-map (λ (x : RecordValue). x.edges) rs n r [] lt)
