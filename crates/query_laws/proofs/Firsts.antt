-- The keys that are asked, each where it is asked first.
use Rattle.std.proofs.Common.{◌≡◌, ◌≢◌, ◌↔◌, ℕ, zero, suc, ◌<◌, Bool, true, false, List, [], ◌∷◌, ◌++◌, slice_get, Some, Contains, refl, sym, ap, subst, ◌∙◌, inl, inr, arith, if◌then◌else◌}
use Rattle.std.specs.List.{AllByRecursion}
use Rattle.std.specs.Ordering.{is_eq}
use Rattle.std.proofs.lemmas.Bool.{cases_order}
use Rattle.std.proofs.lemmas.Option.{none-some, same_Some}
use Rattle.item_ids.specs.declared.key.Key.{Key}
use Rattle.item_ids.specs.Keys.{key_cmp}
use Rattle.item_ids.proofs.Apart.{test_same, test_itself}
use Rattle.result_bytes.specs.declared.value.Value.{Value}
use Rattle.ordered_names.specs.Order.{IsAscendingBy}
use Rattle.ordered_names.proofs.Alike.{one_list, Contains-cases, Contains-first, Contains-later, nowhere}
use Rattle.named_files.proofs.Listed.{contains_at}
use Rattle.recorder.specs.Programs.{Prog, Ret, Ask, asks}
use Rattle.recorder.proofs.Recorded.{all_at}
use Rattle.recorder.proofs.Seen.{unseen_last}
use Rattle.recorder.specs.Backed.{is_seen}
use Rattle.query_rules.specs.Reads.{asked_keys, first_keys, reads}
use Rattle.query_rules.proofs.Firsts.{firsts_new}
use Rattle.query_laws.specs.Laws.{StandsFirst, AreFirsts, RunAsks, Ended, Asked, QueryReadLaws}

differs : false ≡ true → ⊥
differs e = cc

-- ---- what was seen

-- a key that was seen isn't new
unseen_apart : (seen : List Key) (k x : Key) → is_seen seen k ≡ true → is_seen seen x ≡ false → k ≢ x
unseen_apart seen k x s n e = differs (sym n ∙ (ap (is_seen seen) (sym e) ∙ s))

-- a new key that isn't this one is new behind it
still_new : (seen : List Key) (k x : Key) → is_seen seen x ≡ false → is_eq (key_cmp k x) ≡ false → is_seen (seen ++ k ∷ []) x ≡ false
still_new [] k x n e = ap (λ b. if b then true else false) e
still_new (y ∷ ys) k x n e = by_test (is_eq (key_cmp y x)) refl (λ m. still_new ys k x m e)
  where
    by_test : (b : Bool) → is_eq (key_cmp y x) ≡ b → (is_seen ys x ≡ false → is_seen (ys ++ k ∷ []) x ≡ false) → is_seen (y ∷ (ys ++ k ∷ [])) x ≡ false
    by_test true t rest = absurd (differs (sym n ∙ ap (λ b. if b then true else is_seen ys x) t))
    by_test false t rest = ap (λ b. if b then true else is_seen (ys ++ k ∷ []) x) t ∙ rest (sym (ap (λ b. if b then true else is_seen ys x) t) ∙ n)

-- ---- the same keys

firsts_asked : (seen ks : List Key) (x : Key) → Contains (first_keys seen ks) x → Contains ks x
firsts_asked seen [] x h = absurd (nowhere x h)
firsts_asked seen (k ∷ ks) x h = by_test (is_seen seen k) (firsts_asked seen ks x) (firsts_asked (seen ++ k ∷ []) ks x) h
  where
    by_test : (b : Bool) → (Contains (first_keys seen ks) x → Contains ks x) → (Contains (first_keys (seen ++ k ∷ []) ks) x → Contains ks x) → Contains (if b then first_keys seen ks else k ∷ first_keys (seen ++ k ∷ []) ks) x → Contains (k ∷ ks) x
    by_test true old new g = Contains-later k ks x (old g)
    by_test false old new g = elim (Contains-cases k (first_keys (seen ++ k ∷ []) ks) x g) [
      | inl e ↦ subst (Contains (k ∷ ks)) e (Contains-first k ks)
      | inr l ↦ Contains-later k ks x (new l)
    ]

none_lost : (seen ks : List Key) (x : Key) → Contains ks x → is_seen seen x ≡ false → Contains (first_keys seen ks) x
none_lost seen [] x h n = absurd (nowhere x h)
none_lost seen (k ∷ ks) x h n = by_test (is_seen seen k) refl (λ l. none_lost seen ks x l n) (λ l m. none_lost (seen ++ k ∷ []) ks x l m)
  where
    among_new : (b : Bool) → is_eq (key_cmp k x) ≡ b → (Contains ks x → is_seen (seen ++ k ∷ []) x ≡ false → Contains (first_keys (seen ++ k ∷ []) ks) x) → Contains (k ∷ first_keys (seen ++ k ∷ []) ks) x
    among_new true t new = subst (Contains (k ∷ first_keys (seen ++ k ∷ []) ks)) (test_same k x t) (Contains-first k (first_keys (seen ++ k ∷ []) ks))
    among_new false t new = elim (Contains-cases k ks x h) [
      | inl e ↦ absurd (differs (sym t ∙ test_itself k x e))
      | inr l ↦ Contains-later k (first_keys (seen ++ k ∷ []) ks) x (new l (still_new seen k x n t))
    ]

    by_test : (b : Bool) → is_seen seen k ≡ b → (Contains ks x → Contains (first_keys seen ks) x) → (Contains ks x → is_seen (seen ++ k ∷ []) x ≡ false → Contains (first_keys (seen ++ k ∷ []) ks) x)
        → Contains (if b then first_keys seen ks else k ∷ first_keys (seen ++ k ∷ []) ks) x
    by_test true s old new = elim (Contains-cases k ks x h) [ inl e ↦ absurd (unseen_apart seen k x s n e) | inr l ↦ old l ]
    by_test false s old new = among_new (is_eq (key_cmp k x)) refl new

-- ---- the same order

-- what stands first behind another key
behind_first : (k x : Key) (ks : List Key) (n : ℕ) → k ≢ x → StandsFirst (k ∷ ks) n x → (m : ℕ) × (n ≡ suc m) × StandsFirst ks m x
behind_first k x ks zero apart is = absurd (apart (same_Some k x is.here))
behind_first k x ks (suc m) apart is = (m, refl, record { here = is.here; first = λ j l. is.first (suc j) (omega arith) })

at_head : (k : Key) (ks : List Key) (n : ℕ) → StandsFirst (k ∷ ks) n k → n ≡ 0
at_head k ks zero is = refl
at_head k ks (suc m) is = absurd (is.first 0 (omega arith) refl)

-- what stands in the list is new
stands_new : (seen ks : List Key) (i : ℕ) (x : Key) → slice_get (first_keys seen ks) i ≡ Some x → is_seen seen x ≡ false
stands_new seen ks i x e = all_at (λ (y : Key). is_seen seen y ≡ false) (first_keys seen ks) x (contains_at (first_keys seen ks) i x e) (firsts_new seen ks).0

abbrev InOrder : List Key → List Key → Type 0
InOrder asked found =
    (a b : Key) (i j m n : ℕ) → i < j → slice_get found i ≡ Some a → slice_get found j ≡ Some b → StandsFirst asked m a → StandsFirst asked n b → m < n

-- behind a key that is none of them
order_behind : (k : Key) (ks found : List Key) → ((i : ℕ) (x : Key) → slice_get found i ≡ Some x → k ≢ x) → InOrder ks found → InOrder (k ∷ ks) found
order_behind k ks found apart law a b i j m n l at_a at_b first_a first_b =
    let x = behind_first k a ks m (apart i a at_a) first_a in
    let y = behind_first k b ks n (apart j b at_b) first_b in
    let below = law a b i j x.0 y.0 l at_a at_b x.2 y.2 in
    omega (arith, x.1, y.1)

-- before all of them
order_first : (k : Key) (ks found : List Key) → ((i : ℕ) (x : Key) → slice_get found i ≡ Some x → k ≢ x) → InOrder ks found → InOrder (k ∷ ks) (k ∷ found)
order_first k ks found apart law a b zero zero m n l at_a at_b first_a first_b = absurd (omega arith)
order_first k ks found apart law a b (suc i) zero m n l at_a at_b first_a first_b = absurd (omega arith)
order_first k ks found apart law a b zero (suc j) m n l at_a at_b first_a first_b =
    let start = at_head k ks m (subst (StandsFirst (k ∷ ks) m) (sym (same_Some k a at_a)) first_a) in
    let y = behind_first k b ks n (apart j b at_b) first_b in
    omega (arith, start, y.1)
order_first k ks found apart law a b (suc i) (suc j) m n l at_a at_b first_a first_b = order_behind k ks found apart law a b i j m n (omega arith) at_a at_b first_a first_b

in_order : (seen ks : List Key) → InOrder ks (first_keys seen ks)
in_order seen [] = λ a b i j m n l at_a at_b first_a first_b. absurd (none-some a at_a)
in_order seen (k ∷ ks) = by_test (is_seen seen k) refl (in_order seen ks) (in_order (seen ++ k ∷ []) ks)
  where
    by_test : (b : Bool) → is_seen seen k ≡ b → InOrder ks (first_keys seen ks) → InOrder ks (first_keys (seen ++ k ∷ []) ks) → InOrder (k ∷ ks) (if b then first_keys seen ks else k ∷ first_keys (seen ++ k ∷ []) ks)
    by_test true s old new = order_behind k ks (first_keys seen ks) (λ i x e. unseen_apart seen k x s (stands_new seen ks i x e)) old
    by_test false s old new =
        order_first k ks (first_keys (seen ++ k ∷ []) ks) (λ i x e same. (unseen_last seen k x (stands_new (seen ++ k ∷ []) ks i x e)).1 (sym same)) new

are_firsts : (asked : List Key) → AreFirsts asked (first_keys [] asked)
are_firsts asked = record {
  same = λ k. (λ h. none_lost [] asked k h refl, firsts_asked [] asked k);
  once = (firsts_new [] asked).1;
  order = in_order [] asked;
}

-- ---- and no other list has them so

-- a key that stands in a list stands first at some place, and at one only
stands_first : (asked : List Key) (x : Key) → Contains asked x → (m : ℕ) × StandsFirst asked m x
stands_first [] x h = absurd (nowhere x h)
stands_first (k ∷ ks) x h = by_test (is_eq (key_cmp k x)) refl (λ l. stands_first ks x l)
  where
    later : is_eq (key_cmp k x) ≡ false → (m : ℕ) → StandsFirst ks m x → (j : ℕ) → j < suc m → slice_get (k ∷ ks) j ≢ Some x
    later t m s zero l e = differs (sym t ∙ test_itself k x (same_Some k x e))
    later t m s (suc j) l e = s.first j (omega arith) e

    by_test : (b : Bool) → is_eq (key_cmp k x) ≡ b → (Contains ks x → (m : ℕ) × StandsFirst ks m x) → (m : ℕ) × StandsFirst (k ∷ ks) m x
    by_test true t rest = (0, record { here = ap (λ (y : Key). Some y) (test_same k x t); first = λ j l. absurd (omega arith) })
    by_test false t rest = elim (Contains-cases k ks x h) [
      | inl e ↦ absurd (differs (sym t ∙ test_itself k x e))
      | inr l ↦ let s = rest l in (suc s.0, record { here = s.1.here; first = later t s.0 s.1 })
    ]

one_place : (asked : List Key) (x : Key) (m n : ℕ) → StandsFirst asked m x → StandsFirst asked n x → m ≡ n
one_place asked x m n s t =
    elim (cases_order m n) [
      | inl e ↦ e
      | inr (inl l) ↦ absurd (t.first m l s.here)
      | inr (inr l) ↦ absurd (s.first n l t.here)
    ]

-- x was asked first before y was
abbrev Earlier : List Key → Key → Key → Type 0
Earlier asked x y = (m : ℕ) × (n : ℕ) × StandsFirst asked m x × StandsFirst asked n y × (m < n)

not_both : (asked : List Key) (x y : Key) → Earlier asked x y → Earlier asked y x → ⊥
not_both asked x y e f =
    let a = one_place asked x e.0 f.1 e.2 f.3 in
    let b = one_place asked y e.1 f.0 e.3 f.2 in
    let l = e.4 in
    let m = f.4 in
    omega (arith, a, b)

at_each : (P : Key → Type 0) (xs : List Key) → ((j : ℕ) (y : Key) → slice_get xs j ≡ Some y → P y) → AllByRecursion P xs
at_each P [] h = tt
at_each P (y ∷ ys) h = (h 0 y refl, at_each P ys (λ j z e. h (suc j) z e))

ascend : (asked xs : List Key) → ((x : Key) → Contains xs x → Contains asked x) → InOrder asked xs → IsAscendingBy (Earlier asked) xs
ascend asked [] inn law = tt
ascend asked (x ∷ xs) inn law = (
  at_each (Earlier asked x) xs (λ j y e.
      let s = stands_first asked x (inn x (Contains-first x xs)) in
      let t = stands_first asked y (inn y (Contains-later x xs y (contains_at xs j y e))) in
      (s.0, t.0, s.1, t.1, law x y 0 (suc j) s.0 t.0 (omega arith) refl e s.1 t.1)),
  ascend asked xs (λ y c. inn y (Contains-later x xs y c)) (λ a b i j m n l at_a at_b. law a b (suc i) (suc j) m n (omega arith) at_a at_b),
)

one_firsts : (asked xs ys : List Key) → AreFirsts asked xs → AreFirsts asked ys → xs ≡ ys
one_firsts asked xs ys f g =
    one_list Key (Earlier asked) (not_both asked) xs ys (ascend asked xs (λ x. (f.same x).1) f.order) (ascend asked ys (λ x. (g.same x).1) g.order)
    (λ x h. (g.same x).0 ((f.same x).1 h)) (λ x h. (f.same x).0 ((g.same x).1 h))

firsts_law : (asked read : List Key) → (read ≡ first_keys [] asked) ↔ AreFirsts asked read
firsts_law asked read = (λ e. subst (AreFirsts asked) (sym e) (are_firsts asked), λ f. one_firsts asked read (first_keys [] asked) f (are_firsts asked))

-- ---- runs

every_run : (m : Key → Value) (prog : Prog) → (asked : List Key) × RunAsks m prog asked
every_run m (Ret v) = ([], Ended v)
every_run m (Ask k f) = let r = every_run m (f (m k)) in (k ∷ r.0, Asked k f r.0 r.1)

run_firsts : (m : Key → Value) (prog : Prog) (asked seen : List Key) → RunAsks m prog asked → asks prog m seen ≡ first_keys seen asked
unfolding asks
run_firsts m _ _ seen (Ended v) = refl
run_firsts m _ _ seen (Asked k f ks r) = by_test (is_seen seen k) (run_firsts m (f (m k)) ks seen r) (run_firsts m (f (m k)) ks (seen ++ k ∷ []) r)
  where
    by_test : (b : Bool) → asks (f (m k)) m seen ≡ first_keys seen ks → asks (f (m k)) m (seen ++ k ∷ []) ≡ first_keys (seen ++ k ∷ []) ks
        → (if b then asks (f (m k)) m seen else k ∷ asks (f (m k)) m (seen ++ k ∷ [])) ≡ (if b then first_keys seen ks else k ∷ first_keys (seen ++ k ∷ []) ks)
    by_test true old new = old
    by_test false old new = ap (λ (rs : List Key). k ∷ rs) new

pub read_laws : QueryReadLaws
unfolding reads
read_laws = record {
  query = λ profile p q read. firsts_law (asked_keys profile p q) read;
  every = every_run;
  run = λ m prog asked r read.
      let law = firsts_law asked read in
      let same = run_firsts m prog asked [] r in
      (λ e. law.0 (e ∙ same), λ f. law.1 f ∙ sym same);
}
