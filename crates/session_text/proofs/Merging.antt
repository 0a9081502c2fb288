-- Two lists of keys that are merged.
use Rattle.std.proofs.Common.{◌≡◌, ◌∙◌, inl, inr, ℕ, zero, suc, ◌+◌, List, [], ◌∷◌, ◌++◌, Option, Some, None, map, drop, refl, sym, ap, subst, arith}
use Rattle.std.specs.Prelude.{Contains, slice_get}
use Rattle.std.specs.List.{AllByRecursion}
use Rattle.std.specs.declared.cmp.Ordering.{Ordering}
use Rattle.std.specs.declared.cmp.Ordering.TheVariants.{Less, Equal, Greater}
use Rattle.std.specs.Ordering.{ordering_reverse}
use Rattle.std.proofs.lemmas.Option.{none-some, slice_get_within, get_or_from_slice_get}
use Rattle.std.proofs.lemmas.List.{append-nil, append_assoc, drop_more, map-append}
use Rattle.item_ids.specs.declared.key.Key.{Key}
use Rattle.item_ids.specs.Keys.{key_cmp, key_total}
use Rattle.item_ids.proofs.Apart.{key_exact}
use Rattle.item_ids.proofs.Lists.{all_map}
use Rattle.ordered_names.specs.Order.{IsAscendingBy}
use Rattle.ordered_names.proofs.Alike.{Contains-cases, Contains-first, Contains-later}
use Rattle.graph_rules.specs.Graphs.{KeyBefore}
use Rattle.session_text.specs.declared.causes.keys.MergeStep.{MergeStep}
use Rattle.session_text.specs.Parts.{IsMergeStep, PassesKey, PassesLesserKey}

-- the key comes before the first of these, if there is one
abbrev pub IsBeforeFirst : Key → List Key → Type 0
IsBeforeFirst x [] = Unit {0}
IsBeforeFirst x (y ∷ ys) = KeyBefore x y

pub data IsMerge : List Key → List Key → List Key → Type 0 where
  none : IsMerge [] [] []
  left : (x : Key) (xs ys zs : List Key) → IsBeforeFirst x ys → IsMerge xs ys zs → IsMerge (x ∷ xs) ys (x ∷ zs)
  right : (y : Key) (xs ys zs : List Key) → IsBeforeFirst y xs → IsMerge xs ys zs → IsMerge xs (y ∷ ys) (y ∷ zs)
  both : (x : Key) (xs ys zs : List Key) → IsMerge xs ys zs → IsMerge (x ∷ xs) (x ∷ ys) (x ∷ zs)

-- ---- what a merge keeps

pub all_merge : (P : Key → Type 0) (xs ys zs : List Key) → IsMerge xs ys zs → AllByRecursion P xs → AllByRecursion P ys → AllByRecursion P zs
all_merge P _ _ _ none h k = tt
all_merge P _ _ _ (left x xs ys zs below m) h k = (h.0, all_merge P xs ys zs m h.1 k)
all_merge P _ _ _ (right y xs ys zs below m) h k = (k.0, all_merge P xs ys zs m h k.1)
all_merge P _ _ _ (both x xs ys zs m) h k = (h.0, all_merge P xs ys zs m h.1 k.1)

before_all : (x : Key) (ys : List Key) → IsBeforeFirst x ys → IsAscendingBy KeyBefore ys → AllByRecursion (KeyBefore x) ys
before_all x [] below up = tt
before_all x (y ∷ ys) below up = (below, all_map (KeyBefore y) (KeyBefore x) (λ z l. key_total.trans x y z below l) ys up.0)

pub merge_ascends : (xs ys zs : List Key) → IsMerge xs ys zs → IsAscendingBy KeyBefore xs → IsAscendingBy KeyBefore ys → IsAscendingBy KeyBefore zs
merge_ascends _ _ _ none up vp = tt
merge_ascends _ _ _ (left x xs ys zs below m) up vp = (all_merge (KeyBefore x) xs ys zs m up.0 (before_all x ys below vp), merge_ascends xs ys zs m up.1 vp)
merge_ascends _ _ _ (right y xs ys zs below m) up vp = (all_merge (KeyBefore y) xs ys zs m (before_all y xs below up) vp.0, merge_ascends xs ys zs m up vp.1)
merge_ascends _ _ _ (both x xs ys zs m) up vp = (all_merge (KeyBefore x) xs ys zs m up.0 vp.0, merge_ascends xs ys zs m up.1 vp.1)

-- one more in front of both
more : (x : Key) (xs zs : List Key) (q : Key) → (Contains xs q → Contains zs q) → Contains (x ∷ xs) q → Contains (x ∷ zs) q
more x xs zs q f h =
    elim (Contains-cases x xs q h) [
      | inl e ↦ subst (λ (k : Key). Contains (x ∷ zs) k) e (Contains-first x zs)
      | inr i ↦ Contains-later x zs q (f i)
    ]

pub has_left : (xs ys zs : List Key) → IsMerge xs ys zs → (q : Key) → Contains xs q → Contains zs q
has_left _ _ _ none q h = h
has_left _ _ _ (left x xs ys zs below m) q h = more x xs zs q (has_left xs ys zs m q) h
has_left _ _ _ (right y xs ys zs below m) q h = Contains-later y zs q (has_left xs ys zs m q h)
has_left _ _ _ (both x xs ys zs m) q h = more x xs zs q (has_left xs ys zs m q) h

pub has_right : (xs ys zs : List Key) → IsMerge xs ys zs → (q : Key) → Contains ys q → Contains zs q
has_right _ _ _ none q h = h
has_right _ _ _ (left x xs ys zs below m) q h = Contains-later x zs q (has_right xs ys zs m q h)
has_right _ _ _ (right y xs ys zs below m) q h = more y ys zs q (has_right xs ys zs m q) h
has_right _ _ _ (both x xs ys zs m) q h = more x ys zs q (has_right xs ys zs m q) h

-- ---- steps

drop_some : (ks : List Key) (i : ℕ) (k : Key) → slice_get ks i ≡ Some k → drop i ks ≡ k ∷ drop (i + 1) ks
drop_some ks i k is =
    let lt = slice_get_within ks i k is in
    drop_more ks i k lt ∙ ap (λ (x : Key). x ∷ drop (i + 1) ks) (get_or_from_slice_get ks i k k is)

drop_none : (ks : List Key) (i : ℕ) → slice_get ks i ≡ None → drop i ks ≡ []
drop_none [] zero is = refl
drop_none [] (suc i) is = refl
drop_none (k ∷ ks) zero is = absurd (none-some k (sym is))
drop_none (k ∷ ks) (suc i) is = drop_none ks i is

-- a merge that starts at these indices
abbrev pub MergeFrom : List Key → List Key → ℕ → ℕ → List Key → Type 0
MergeFrom ks js i j zs = IsMerge (drop i ks) (drop j js) zs

module _ (ks js : List Key) (i j : ℕ) (zs : List Key) where
  stay : (n : ℕ) → n + 0 ≡ n
  stay n = omega arith

  take_left : (x : Key) → slice_get ks i ≡ Some x → IsBeforeFirst x (drop j js) → MergeFrom ks js (i + 1) (j + 0) zs → MergeFrom ks js i j (x ∷ zs)
  take_left x is below m =
      subst (λ (xs : List Key). IsMerge xs (drop j js) (x ∷ zs)) (sym (drop_some ks i x is))
      (left x (drop (i + 1) ks) (drop j js) zs below (subst (λ (n : ℕ). IsMerge (drop (i + 1) ks) (drop n js) zs) (stay j) m))

  take_right : (y : Key) → slice_get js j ≡ Some y → IsBeforeFirst y (drop i ks) → MergeFrom ks js (i + 0) (j + 1) zs → MergeFrom ks js i j (y ∷ zs)
  take_right y is below m =
      subst (λ (ys : List Key). IsMerge (drop i ks) ys (y ∷ zs)) (sym (drop_some js j y is))
      (right y (drop i ks) (drop (j + 1) js) zs below (subst (λ (n : ℕ). IsMerge (drop n ks) (drop (j + 1) js) zs) (stay i) m))

  take_both : (x : Key) → slice_get ks i ≡ Some x → slice_get js j ≡ Some x → MergeFrom ks js (i + 1) (j + 1) zs → MergeFrom ks js i j (x ∷ zs)
  take_both x is there m =
      subst (λ (xs : List Key). IsMerge xs (drop j js) (x ∷ zs)) (sym (drop_some ks i x is))
      (subst (λ (ys : List Key). IsMerge (x ∷ drop (i + 1) ks) ys (x ∷ zs)) (sym (drop_some js j x there))
      (both x (drop (i + 1) ks) (drop (j + 1) js) zs m))

  before_none : (x : Key) (ys : List Key) → ys ≡ [] → IsBeforeFirst x ys
  before_none x ys e = subst (IsBeforeFirst x) (sym e) tt

  before_some : (x y : Key) (ys rest : List Key) → ys ≡ y ∷ rest → KeyBefore x y → IsBeforeFirst x ys
  before_some x y ys rest e l = subst (IsBeforeFirst x) (sym e) l

  passed : (step : MergeStep) (key : Key) (p n : ℕ) → PassesKey key p n step → (MergeFrom ks js (i + p) (j + n) zs → MergeFrom ks js i j (key ∷ zs))
      → MergeFrom ks js (i + step.past) (j + step.now) zs → MergeFrom ks js i j (step.key.now ∷ zs)
  passed step key p n is f m =
      subst (λ (k : Key). MergeFrom ks js i j (k ∷ zs)) (sym is.0)
      (f (subst (λ (b : ℕ). MergeFrom ks js (i + p) (j + b) zs) is.2 (subst (λ (a : ℕ). MergeFrom ks js (i + a) (j + step.now) zs) is.1 m)))

  by_order : (step : MergeStep) (x y : Key) → slice_get ks i ≡ Some x → slice_get js j ≡ Some y → (o : Ordering) → key_cmp x y ≡ o → PassesLesserKey x y o step
      → MergeFrom ks js (i + step.past) (j + step.now) zs → MergeFrom ks js i j (step.key.now ∷ zs)
  by_order step x y is there Less o passes m =
      passed step x 1 0 passes (take_left x is (before_some x y (drop j js) (drop (j + 1) js) (drop_some js j y there) o)) m
  by_order step x y is there Equal o passes m =
      passed step y 1 1 passes (take_both y (is ∙ ap (λ (k : Key). Some k) (key_exact x y o)) there) m
  by_order step x y is there Greater o passes m =
      let l : KeyBefore y x = key_total.antisymm y x ∙ ap ordering_reverse o in
      passed step y 0 1 passes (take_right y there (before_some y x (drop i ks) (drop (i + 1) ks) (drop_some ks i x is) l)) m

  by_heads : (step : MergeStep) (a b : Option Key) → slice_get ks i ≡ a → slice_get js j ≡ b → IsMergeStep a b (Some step)
      → MergeFrom ks js (i + step.past) (j + step.now) zs → MergeFrom ks js i j (step.key.now ∷ zs)
  by_heads step None None is there passes m = absurd (none-some step (sym passes))
  by_heads step (Some x) None is there passes m =
      passed step x 1 0 passes (take_left x is (before_none x (drop j js) (drop_none js j there))) m
  by_heads step None (Some y) is there passes m =
      passed step y 0 1 passes (take_right y there (before_none y (drop i ks) (drop_none ks i is))) m
  by_heads step (Some x) (Some y) is there passes m = by_order step x y is there (key_cmp x y) refl passes m

  pub step_more : (step : MergeStep) → IsMergeStep (slice_get ks i) (slice_get js j) (Some step)
      → MergeFrom ks js (i + step.past) (j + step.now) zs → MergeFrom ks js i j (step.key.now ∷ zs)
  step_more step passes m = by_heads step (slice_get ks i) (slice_get js j) refl refl passes m

pub no_step : (ks js : List Key) (i j : ℕ) → IsMergeStep (slice_get ks i) (slice_get js j) None → MergeFrom ks js i j []
no_step ks js i j end = by_heads (slice_get ks i) (slice_get js j) refl refl end
  where
    by_heads : (a b : Option Key) → slice_get ks i ≡ a → slice_get js j ≡ b → IsMergeStep a b None → MergeFrom ks js i j []
    by_heads None None is there end =
        subst (λ (xs : List Key). IsMerge xs (drop j js) []) (sym (drop_none ks i is))
        (subst (λ (ys : List Key). IsMerge [] ys []) (sym (drop_none js j there)) none)
    by_heads (Some x) None is there end = absurd end
    by_heads None (Some y) is there end = absurd end
    by_heads (Some x) (Some y) is there end = absurd end

-- one more key that was passed
pub keys_more : {B : Type 0} (key_of : B → Key) (ks js : List Key) (i j : ℕ) (keys : List B) (key : B) (p n : ℕ)
    → ((rest : List Key) → MergeFrom ks js i j rest → IsMerge ks js (map key_of keys ++ rest))
    → ((rest : List Key) → MergeFrom ks js (i + p) (j + n) rest → MergeFrom ks js i j (key_of key ∷ rest))
    → (rest : List Key) → MergeFrom ks js (i + p) (j + n) rest → IsMerge ks js (map key_of (keys ++ key ∷ []) ++ rest)
keys_more key_of ks js i j keys key p n so_far step rest m =
    let behind : map key_of (keys ++ key ∷ []) ++ rest ≡ map key_of keys ++ (key_of key ∷ rest)
    = ap (λ (zs : List Key). zs ++ rest) (map-append key_of keys (key ∷ [])) ∙ append_assoc (map key_of keys) (key_of key ∷ []) rest in
    subst (IsMerge ks js) (sym behind) (so_far (key_of key ∷ rest) (step rest m))

pub merge_ends : {B : Type 0} (key_of : B → Key) (ks js : List Key) (i j : ℕ) (keys : List B)
    → ((rest : List Key) → MergeFrom ks js i j rest → IsMerge ks js (map key_of keys ++ rest)) → MergeFrom ks js i j [] → IsMerge ks js (map key_of keys)
merge_ends key_of ks js i j keys so_far end = subst (IsMerge ks js) (append-nil (map key_of keys)) (so_far [] end)
