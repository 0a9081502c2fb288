-- The keys of two sessions.
use Rattle.std.proofs.Common.{◌≡◌, ◌∙◌, inl, inr, ℕ, suc, ◌<◌, List, [], ◌∷◌, Option, Some, None, map, take, length, get_or, refl, sym, ap, arith, true≢false}
use Rattle.std.specs.Prelude.{Contains, IfSome, IsSome, is_some}
use Rattle.std.specs.List.{All, AllByRecursion}
use Rattle.std.proofs.lemmas.List.{get_or-map, get_or_default, length-map}
use Rattle.std.proofs.lemmas.List.Elements.{recursion_from_All}
use Rattle.item_ids.specs.declared.key.Key.{Key}
use Rattle.ordered_names.specs.Order.{IsAscendingBy}
use Rattle.sessions.specs.Sessions.{Entry, RecordValue, SessionValue, IsSession, entry_at, entry_of}
use Rattle.sessions.proofs.EntryRules.{entry_of_place, has_key, has_record}
use Rattle.graph_rules.specs.Graphs.{KeyBefore}
use Rattle.session_text.specs.Causes.{IsOfEither}
use Rattle.session_text.specs.Parts.{AreKeysOfEither, records_in}
use Rattle.session_text.proofs.Merging.{IsMerge, all_merge, has_left, has_right, merge_ascends}

abbrev pub keys_in : List RecordValue → List Key
keys_in records = map (λ r. r.key) records

some_is : {A : Type 0} (o : Option A) (x : A) → o ≡ Some x → IsSome o
some_is {A} o x e = ap (λ (p : Option A). is_some p) e

some_of : {A : Type 0} (o : Option A) → IsSome o → (x : A) × (o ≡ Some x)
some_of None h = absurd (true≢false (sym h))
some_of (Some x) h = (x, refl)

-- ---- keys in order

ascends_from : {X : Type 0} (B : X → X → Type 0) (xs : List X) → ((i : ℕ) (d : X) → i < length xs → AllByRecursion (λ x. B x (get_or xs i d)) (take i xs)) → IsAscendingBy B xs
ascends_from B [] h = tt
ascends_from B (x ∷ xs) h =
    (recursion_from_All (B x) xs (λ j d lt. (h (suc j) d (omega (arith, lt))).0), ascends_from B xs (λ j d lt. (h (suc j) d (omega (arith, lt))).1))

keys_behind : (k : Key) (rs : List RecordValue) → AllByRecursion (λ r. KeyBefore k r.key) rs → AllByRecursion (KeyBefore k) (keys_in rs)
keys_behind k [] h = tt
keys_behind k (r ∷ rs) h = (h.0, keys_behind k rs h.1)

keys_ascend : (rs : List RecordValue) → IsAscendingBy (λ a b. KeyBefore a.key b.key) rs → IsAscendingBy KeyBefore (keys_in rs)
keys_ascend [] h = tt
keys_ascend (r ∷ rs) h = (keys_behind r.key rs h.0, keys_ascend rs h.1)

all_keys : (P : Key → Type 0) (rs : List RecordValue) → AllByRecursion (λ r. P r.key) rs → AllByRecursion P (keys_in rs)
all_keys P [] h = tt
all_keys P (r ∷ rs) h = (h.0, all_keys P rs h.1)

-- ---- the keys of one session

module _ (s : SessionValue) (session : IsSession s) where
  in_order : IsAscendingBy KeyBefore (keys_in s.records)
  in_order = keys_ascend s.records (ascends_from (λ (a b : RecordValue). KeyBefore a.key b.key) s.records (λ i d lt. (session.records i d lt).above))

  each_there : All (λ (r : RecordValue). IsSome (entry_at s r.key)) s.records
  each_there i d lt =
      let r = get_or s.records i d in
      let is : get_or s.records i r ≡ r = get_or_default s.records i r d lt in
      some_is (entry_at s r.key) (entry_of s.records r) (entry_of_place s session i r lt is)

  all_there : AllByRecursion (λ (k : Key). IsSome (entry_at s k)) (keys_in s.records)
  all_there = all_keys (λ (k : Key). IsSome (entry_at s k)) s.records (recursion_from_All (λ (r : RecordValue). IsSome (entry_at s r.key)) s.records each_there)

  there : (q : Key) → IsSome (entry_at s q) → Contains (keys_in s.records) q
  there q h =
      let r = some_of (entry_at s q) h in
      let x = has_record s session q r.0 r.1 in
      let key : x.0.key ≡ q = ap (λ (e : Entry). e.key) x.4 ∙ has_key s session q r.0 r.1 in
      let lt : x.1 < length (keys_in s.records) = let l = x.2 in omega (arith, l, length-map s.records (λ (y : RecordValue). y.key)) in
      (x.1, lt, get_or-map (λ (y : RecordValue). y.key) s.records x.1 x.0 q x.2 ∙ (ap (λ (y : RecordValue). y.key) x.3 ∙ key))

-- ---- the keys of both

all_weaker : {X : Type 0} (P Q : X → Type 0) (xs : List X) → ((x : X) → P x → Q x) → AllByRecursion P xs → AllByRecursion Q xs
all_weaker P Q [] f h = tt
all_weaker P Q (x ∷ xs) f h = (f x h.0, all_weaker P Q xs f h.1)

pub keys_of_either : (was : Option SessionValue) → IfSome was IsSession → (now : SessionValue) → IsSession now → (keys : List Key) → IsMerge (keys_in (records_in was)) (keys_in now.records) keys
    → AreKeysOfEither was now keys
keys_of_either None was_is now now_is keys m = record {
  ascending = merge_ascends [] (keys_in now.records) keys m tt (in_order now now_is);
  each = all_merge (IsOfEither None now) [] (keys_in now.records) keys m tt (all_weaker (λ k. IsSome (entry_at now k)) (IsOfEither None now) (keys_in now.records) (λ k h. inr h) (all_there now now_is));
  all = λ q side. elim side [
    | inl old ↦ absurd (true≢false (sym old))
    | inr new ↦ has_right [] (keys_in now.records) keys m q (there now now_is q new)
  ];
}
keys_of_either (Some s) was_is now now_is keys m = record {
  ascending = merge_ascends (keys_in s.records) (keys_in now.records) keys m (in_order s was_is) (in_order now now_is);
  each = all_merge (IsOfEither (Some s) now) (keys_in s.records) (keys_in now.records) keys m
      (all_weaker (λ k. IsSome (entry_at s k)) (IsOfEither (Some s) now) (keys_in s.records) (λ k h. inl h) (all_there s was_is))
      (all_weaker (λ k. IsSome (entry_at now k)) (IsOfEither (Some s) now) (keys_in now.records) (λ k h. inr h) (all_there now now_is));
  all = λ q side. elim side [
    | inl old ↦ has_left (keys_in s.records) (keys_in now.records) keys m q (there s was_is q old)
    | inr new ↦ has_right (keys_in s.records) (keys_in now.records) keys m q (there now now_is q new)
  ];
}
