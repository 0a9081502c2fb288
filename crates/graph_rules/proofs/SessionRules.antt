-- What a session says about a key, by its records.
use Rattle.std.proofs.Common.{◌≡◌, ℕ, suc, zero, ◌<◌, List, [], ◌∷◌, take, length, get_or, Option, Some, None, option_map, refl, sym, ap, ◌∙◌, subst, arith}
use Rattle.std.specs.Prelude.{Contains, IfSome}
use Rattle.std.specs.Ordering.{is_eq}
use Rattle.std.proofs.lemmas.List.{get_or-map, length-map}
use Rattle.std.proofs.lemmas.Option.{none-some}
use Rattle.item_ids.specs.declared.key.Key.{Key}
use Rattle.item_ids.specs.Keys.{key_cmp}
use Rattle.result_bytes.specs.Values.{IsValue}
use Rattle.result_bytes.proofs.ValueLaws.{one_value}
use Rattle.fingerprint.specs.Prints.{print_of}
use Rattle.sessions.specs.Sessions.{RecordValue, SessionValue, IsSession, FitsBehind, Entry, key_at, entry_of, entries, entry_at, past_entry}
use Rattle.sessions.proofs.EntryRules.{found_at, key_of_place, entry_of_place, has_key, has_kind, has_lower, has_once, has_edge}
use Rattle.graph_rules.specs.Pasts.{IsGraph, print_in}
use Rattle.graph_rules.specs.Apart.{AreApartFrom, HasNoClash}

pub print_of_place : (s : SessionValue) → IsSession s → (i : ℕ) (r : RecordValue) → i < length s.records → get_or s.records i r ≡ r → print_in (past_entry (Some s)) (key_at s.records i) ≡ Some (print_of r.value)
print_of_place s session i r lt is =
    ap (print_in (past_entry (Some s))) (key_of_place s i r lt is) ∙ ap (option_map (λ x. print_of x.value)) (entry_of_place s session i r lt is)

pub session_graph : (s : SessionValue) → IsSession s → IsGraph (entry_at s)
session_graph s session = record {
  key = λ q r has. has_key s session q r has;
  kind = λ q r has. has_kind s session q r has;
  lower = λ q r has. has_lower s session q r has;
  once = λ q r has. has_once s session q r has;
  closed = λ q r e has c. has_edge s session q r has e c;
}

none_graph : IsGraph (past_entry None)
none_graph = record {
  key = λ q r has. absurd (none-some r has);
  kind = λ q r has. absurd (none-some r has);
  lower = λ q r has. absurd (none-some r has);
  once = λ q r has. absurd (none-some r has);
  closed = λ q r e has c. absurd (none-some r has);
}

pub past_graph : (past : Option SessionValue) → IfSome past IsSession → IsGraph (past_entry past)
past_graph None h = none_graph
past_graph (Some s) h = session_graph s h

-- ---- entries

-- the item that stands there
pub item_at : {X : Type 0} (xs : List X) (i : ℕ) → i < length xs → (x : X) × (get_or xs i x ≡ x)
item_at [] i lt = absurd (omega arith)
item_at (x ∷ xs) zero lt = (x, refl)
item_at (x ∷ xs) (suc i) lt = item_at xs i (omega arith)

-- an entry is what the session says about its key
pub told_of_entry : (s : SessionValue) → IsSession s → (r : Entry) → Contains (entries s) r → entry_at s r.key ≡ Some r
told_of_entry s session r c =
    let lt : c.0 < length s.records = let l = c.1 in omega (arith, l, length-map s.records (entry_of s.records)) in
    let x = item_at s.records c.0 lt in
    let e : entry_of s.records x.0 ≡ r = ap (entry_of s.records) (sym x.1) ∙ (sym (get_or-map (entry_of s.records) s.records c.0 x.0 r lt) ∙ c.2) in
    subst (λ (y : Entry). entry_at s y.key ≡ Some y) e (entry_of_place s session c.0 x.0 lt x.1)

-- what a session says about a key is one of its entries
pub entry_told : (s : SessionValue) (q : Key) (r : Entry) → entry_at s q ≡ Some r → Contains (entries s) r
entry_told s q r has = found_at (λ (e : Entry). is_eq (key_cmp e.key q)) (entries s) r has

-- an entry's value is one
entry_fits : (s : SessionValue) → IsSession s → (r : Entry) → Contains (entries s) r → IsValue r.value
entry_fits s session r c =
    let lt : c.0 < length s.records = let l = c.1 in omega (arith, l, length-map s.records (entry_of s.records)) in
    let x = item_at s.records c.0 lt in
    let e : entry_of s.records x.0 ≡ r = ap (entry_of s.records) (sym x.1) ∙ (sym (get_or-map (entry_of s.records) s.records c.0 x.0 r lt) ∙ c.2) in
    let fits = subst (FitsBehind (take c.0 s.records)) x.1 (session.records c.0 x.0 lt) in
    subst (λ (y : Entry). IsValue y.value) e fits.kept.value

-- ---- sessions that are apart by bytes

pub no_clash : (past : Option SessionValue) (s : SessionValue) → IfSome past IsSession → IsSession s → AreApartFrom (past_entry past) (entry_at s) → HasNoClash (past_entry past) (entries s)
no_clash None s past_is session apart q r x has c same = absurd (none-some r has)
no_clash (Some t) s past_is session apart q r x has c same =
    one_value r.value x.value (entry_fits t past_is r (entry_told t q r has)) (entry_fits s session x c)
    (apart r.value x.value (record { key = q; entry = r; has = has; value = refl })
    (record { key = x.key; entry = x; has = told_of_entry s session x c; value = refl }) same)
