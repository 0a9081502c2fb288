-- The keys of a session in a set, by whose places its records are found.
use Rattle.std.proofs.Common.{◌≡◌, ◌≢◌, ℕ, ◌+◌, ◌<◌, ◌||◌, Bool, true, false, List, [], ◌∷◌, ◌++◌, map, take, length, get_or, position, refl, sym, ap, ◌∙◌, subst, true≢false, is_some, arith, Option, Some, None}
use Rattle.std.specs.Prelude.{All, HoldsAt, IfSome, MatchOption, if◌then◌else◌}
use Rattle.std.specs.Borrow.{Bor}
use Rattle.std.specs.List.{AllByRecursion, list_any}
use Rattle.std.specs.Ordering.{is_eq}
use Rattle.std.specs.declared.cmp.Ordering.{Ordering}
use Rattle.std.specs.declared.cmp.Ordering.TheVariants.{Less, Equal}
use Rattle.std.proofs.lemmas.List.{get_or-map, get_or_default, length-map, map-append, take_more}
use Rattle.std.proofs.lemmas.List.Elements.{All-from_recursion}
use Rattle.std.proofs.lemmas.List.Quantifiers.{position-Some}
use Rattle.item_ids.specs.declared.key.Key.{Key}
use Rattle.item_ids.specs.Keys.{key_cmp}
use Rattle.item_ids.proofs.Apart.{test_same, test_itself, key_itself}
use Rattle.sessions.specs.Sessions.{RecordValue, SessionValue, IsSession, IsAbove, entry_at, entry_of}
use Rattle.sessions.proofs.EntryRules.{no_entry, entry_here}
use Rattle.audit_graph.specs.PastKeys.{AreKeysOf}
use Rattle.audit_graph.proofs.Entries.{item_at}

-- the test of a key against a lent one
abbrev pub is_key_at : Key → Bor Key → Bool
is_key_at q k = is_eq (key_cmp q k.now)

heads : (k : Bor Key) (ks : List (Bor Key)) (r : RecordValue) (rs : List RecordValue) → AreKeysOf (k ∷ ks) (r ∷ rs) → k.now ≡ r.key
heads k ks r rs same = cc

tails : (k : Bor Key) (ks : List (Bor Key)) (r : RecordValue) (rs : List RecordValue) → AreKeysOf (k ∷ ks) (r ∷ rs) → AreKeysOf ks rs
tails k ks r rs same = cc

first_fails : (a b : Bool) → a || b ≡ false → a ≡ false
first_fails true b e = e
first_fails false b e = refl

rest_fails : (a b : Bool) → a || b ≡ false → b ≡ false
rest_fails true b e = absurd (true≢false e)
rest_fails false b e = e

-- ---- a key that none of them is

none_among : (q : Key) (ks : List (Bor Key)) (rs : List RecordValue) → AreKeysOf ks rs → list_any (is_key_at q) ks ≡ false → AllByRecursion (λ x. x.key ≢ q) rs
none_among q [] [] same none = tt
none_among q [] (r ∷ rs) same none = absurd cc
none_among q (k ∷ ks) [] same none = absurd cc
none_among q (k ∷ ks) (r ∷ rs) same none = (
  (λ e. true≢false (sym (test_itself q k.now (sym (heads k ks r rs same ∙ e))) ∙ first_fails (is_key_at q k) (list_any (is_key_at q) ks) none)),
  none_among q ks rs (tails k ks r rs same) (rest_fails (is_key_at q k) (list_any (is_key_at q) ks) none),
)

-- a key that isn't among those of a session has no entry
pub not_there : (s : SessionValue) (q : Key) (ks : List (Bor Key)) → AreKeysOf ks s.records → list_any (is_key_at q) ks ≡ false → entry_at s q ≡ None
not_there s q ks same none = no_entry s q (All-from_recursion (λ (x : RecordValue). x.key ≢ q) s.records (none_among q ks s.records same none))

-- ---- a key that one of them is

at_place : (ks : List (Bor Key)) (rs : List RecordValue) (i : ℕ) (k : Bor Key) (d : RecordValue) → AreKeysOf ks rs → i < length ks → get_or ks i k ≡ k → (i < length rs) × ((get_or rs i d).key ≡ k.now)
at_place ks rs i k d same lt is =
    let within : i < length rs = omega (arith, lt, sym (length-map ks (λ (x : Bor Key). x.now)) ∙ (ap length same ∙ length-map rs (λ (r : RecordValue). r.key))) in
    (within, sym (get_or-map (λ (r : RecordValue). r.key) rs i d k.now within) ∙ (ap (λ l. get_or l i k.now) (sym same) ∙ (get_or-map (λ (x : Bor Key). x.now) ks i k k.now lt ∙ ap (λ (x : Bor Key). x.now) is)))

-- the record at the place of a key in the set has that key, and its entry
module _ (s : SessionValue) (session : IsSession s) (q : Key) (ks : List (Bor Key)) (same : AreKeysOf ks s.records) (i : ℕ) (found : position (is_key_at q) ks ≡ Some i) (lt : i < length ks) where
  key_there : (d : RecordValue) → (i < length s.records) × ((get_or s.records i d).key ≡ q)
  key_there d =
      let k = item_at ks i lt in
      let first = position-Some (is_key_at q) ks i k.0 found in
      let at = at_place ks s.records i k.0 d same lt k.1 in
      (at.0, at.1 ∙ (sym (ap (λ (x : Bor Key). x.now) k.1) ∙ sym (test_same q (get_or ks i k.0).now first.1)))

  pub place_within : i < length s.records
  place_within =
      let k = item_at ks i lt in
      omega (arith, lt, sym (length-map ks (λ (x : Bor Key). x.now)) ∙ (ap length same ∙ length-map s.records (λ (r : RecordValue). r.key)))

  pub there : HoldsAt (λ r. entry_at s q ≡ Some (entry_of s.records r)) s.records i
  there d =
      let x = item_at s.records i place_within in
      let here : get_or s.records i d ≡ x.0 = any_place d x.0 x.1 in
      subst (λ (r : RecordValue). entry_at s q ≡ Some (entry_of s.records r)) (sym here)
      (entry_here s session q i x.0 place_within (sym x.1) (ap (λ (r : RecordValue). r.key) (sym x.1) ∙ (key_there x.0).1))
    where
      any_place : (d x : RecordValue) → get_or s.records i x ≡ x → get_or s.records i d ≡ x
      any_place d x is = get_or_default s.records i d x place_within ∙ is

-- what the place of a key in the set says of the session
pub finds : (s : SessionValue) → IsSession s → (q : Key) (ks : List (Bor Key)) → AreKeysOf ks s.records → (o : Option ℕ) → o ≡ position (is_key_at q) ks → is_some o ≡ list_any (is_key_at q) ks → IfSome o (λ i. i < length ks)
    → MatchOption o (entry_at s q ≡ None) (λ i. HoldsAt (λ r. entry_at s q ≡ Some (entry_of s.records r)) s.records i)
finds s session q ks same None is found within = not_there s q ks same (sym found)
finds s session q ks same (Some i) is found within = there s session q ks same i (sym is) within

-- ---- the set is made of one key after the other

above_apart : (k : Key) (ks : List (Bor Key)) (rs : List RecordValue) → AreKeysOf ks rs → IsAbove rs k → list_any (is_key_at k) ks ≡ false
above_apart k [] rs same above = refl
above_apart k (x ∷ xs) [] same above = absurd cc
above_apart k (x ∷ xs) (r ∷ rs) same above =
    let other : is_key_at k x ≡ false = not_equal (is_key_at k x) refl in
    ap (λ (b : Bool). b || list_any (is_key_at k) xs) other ∙ above_apart k xs rs (tails x xs r rs same) above.1
  where
    less_equal : Less ≡ Equal → ⊥
    less_equal e = cc

    not_equal : (b : Bool) → is_key_at k x ≡ b → is_key_at k x ≡ false
    not_equal true e = absurd (less_equal (sym above.0 ∙ key_itself r.key k (sym (test_same k x.now e ∙ heads x xs r rs same))))
    not_equal false e = e

-- the keys of the records up to this one, once its own is added
pub one_more_key : (rs : List RecordValue) (n : ℕ) (r : RecordValue) (old : List (Bor Key)) (k : Bor Key) → n < length rs → r ≡ get_or rs n r → k.now ≡ r.key → IsAbove (take n rs) r.key → AreKeysOf old (take n rs)
    → AreKeysOf (if list_any (λ x. is_eq (key_cmp k.now x.now)) old then old else old ++ k ∷ []) (take (n + 1) rs)
one_more_key rs n r old k lt is key above same =
    let apart = above_apart k.now old (take n rs) same (subst (IsAbove (take n rs)) (sym key) above) in
    ap (λ (b : Bool). map (λ (x : Bor Key). x.now) (if b then old else old ++ k ∷ [])) apart
    ∙ (map-append (λ (x : Bor Key). x.now) old (k ∷ [])
    ∙ (ap (λ (l : List Key). l ++ k.now ∷ []) same
    ∙ (ap (λ (q : Key). map (λ (x : RecordValue). x.key) (take n rs) ++ q ∷ []) (key ∙ ap (λ (x : RecordValue). x.key) is)
    ∙ (sym (map-append (λ (x : RecordValue). x.key) (take n rs) (get_or rs n r ∷ []))
    ∙ ap (map (λ (x : RecordValue). x.key)) (sym (take_more rs n r lt))))))
