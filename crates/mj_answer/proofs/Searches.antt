-- What a binary search finds in a list that ascends by name.
use Rattle.std.proofs.Common.{◌≡◌, ℕ, zero, suc, ◌<◌, ◌≤◌, Bool, true, false, List, [], ◌∷◌, length, get_or, Ordering, is_eq, Bor, Option, Some, None, Result, Ok, Err, refl, sym, ap, ◌∙◌, subst, arith, ◌⊎◌, inl, inr}
use Rattle.std.specs.Prelude.{position, find, nat_lt, is_some, IfSome}
use Rattle.std.specs.List.{AllByRecursion, position_or_len, slice_get}
use Rattle.std.specs.List.Sorted.{IsSearchInRange, IsBinarySearchResult, IsNonDecreasingBy}
use Rattle.std.specs.Ordering.{nat_cmp, ordering_index, ordering_reverse}
use Rattle.std.specs.Option.{option_copied}
use Rattle.std.specs.Result.{result_ok}
use Rattle.std.specs.Str.{bytes_eq}
use Rattle.std.specs.Cmp.Lexicographic.{slice_cmp}
use Rattle.std.specs.declared.cmp.Ordering.TheVariants.{Less, Equal, Greater}
use Rattle.std.proofs.lemmas.Cmp.{nat_list_cmp_total}
use Rattle.std.proofs.lemmas.Map.Text.{is_eq-slice_cmp}
use Rattle.std.proofs.lemmas.List.Sums.{position_or_len_is}
use Rattle.std.proofs.lemmas.List.Folds.{find_at}
use Rattle.std.proofs.lemmas.Option.{slice_get_past, slice_get_read}
use Rattle.std.proofs.lemmas.Bool.{cases_order}
use Rattle.std.proofs.lemmas.Bool.Decides.{nat_tests}
use Rattle.ordered_names.specs.Order.{NameBefore, IsAscendingBy, IsAscendingByName}
use Rattle.ordered_names.proofs.Orders.{equal_names}

-- an earlier name compares no higher
name_rises : (m n k : List ℕ) → NameBefore m n → ordering_index (slice_cmp nat_cmp m k) ≤ ordering_index (slice_cmp nat_cmp n k)
name_rises m n k before = cases (slice_cmp nat_cmp m k) refl
  where
    above : slice_cmp nat_cmp k n ≡ Less → ordering_index (slice_cmp nat_cmp n k) ≡ 2
    above e = ap ordering_index (nat_list_cmp_total.antisymm n k ∙ ap ordering_reverse e)

    cases : (o : Ordering) → slice_cmp nat_cmp m k ≡ o → ordering_index (slice_cmp nat_cmp m k) ≤ ordering_index (slice_cmp nat_cmp n k)
    cases Less e = rw e (omega arith)
    cases Equal e = let a = above (subst (λ (v : List ℕ). NameBefore v n) (equal_names m k e) before) in rw (e, a) (omega arith)
    cases Greater e =
        let a = above (nat_list_cmp_total.trans k m n (nat_list_cmp_total.antisymm k m ∙ ap ordering_reverse e) before) in
        rw (e, a) (omega arith)

at_index : {X : Type 0} (P : X → Type 0) (xs : List X) (i : ℕ) (d : X) → AllByRecursion P xs → i < length xs → P (get_or xs i d)
at_index P [] i d all lt = absurd (omega arith)
at_index P (x ∷ xs) zero d all lt = all.0
at_index P (x ∷ xs) (suc i) d all lt = at_index P xs i d all.1 (omega arith)

pub before_at : {X : Type 0} (B : X → X → Type 0) (xs : List X) (i j : ℕ) (d : X) → IsAscendingBy B xs → i < j → j < length xs → B (get_or xs i d) (get_or xs j d)
before_at B [] i j d up lt in_range = absurd (omega arith)
before_at B (x ∷ xs) i zero d up lt in_range = absurd (omega arith)
before_at B (x ∷ xs) zero (suc j) d up lt in_range = at_index (B x) xs j d up.0 (omega arith)
before_at B (x ∷ xs) (suc i) (suc j) d up lt in_range = before_at B xs i j d up.1 (omega arith) (omega arith)

module _ {X : Type 0} (name_of : X → List ℕ) (name : List ℕ) where
  abbrev has_name : X → Bool
  has_name x = bytes_eq (name_of x) name

  abbrev comparison : X → Ordering
  comparison x = slice_cmp nat_cmp (name_of x) name

  has-equal : (x : X) → comparison x ≡ Equal → has_name x ≡ true
  has-equal x e = sym (is_eq-slice_cmp (name_of x) name) ∙ ap is_eq e

  has-less : (x : X) → comparison x ≡ Less → has_name x ≡ false
  has-less x e = sym (is_eq-slice_cmp (name_of x) name) ∙ ap is_eq e

  has-greater : (x : X) → comparison x ≡ Greater → has_name x ≡ false
  has-greater x e = sym (is_eq-slice_cmp (name_of x) name) ∙ ap is_eq e

  comparisons_rise : (xs : List X) → IsAscendingByName name_of xs → IsNonDecreasingBy (λ x. ordering_index (comparison x)) xs
  comparisons_rise xs up i j d le in_range =
      elim (cases_order i j) [
        | inl e ↦ rw e (omega arith)
        | inr c ↦ elim c [
          | inl lt ↦ name_rises (name_of (get_or xs i d)) (name_of (get_or xs j d)) name (before_at (λ x y. NameBefore (name_of x) (name_of y)) xs i j d up lt in_range)
          | inr gt ↦ absurd (omega arith)
        ]
      ]

  found_at : (xs : List X) (i : ℕ) → i ≡ position_or_len has_name xs → i < length xs → position has_name xs ≡ Some i
  found_at xs i e lt = grind (arith, nat_tests)

  found_nowhere : (xs : List X) → position_or_len has_name xs ≡ length xs → position has_name xs ≡ None
  found_nowhere xs e = grind (arith, nat_tests)

  first_at : (xs : List X) (i : ℕ) (d : X) → IsAscendingByName name_of xs → i < length xs → comparison (get_or xs i d) ≡ Equal → position_or_len has_name xs ≡ i
  first_at xs i d up lt e =
      position_or_len_is has_name xs i d (omega arith)
      (λ k below. has-less (get_or xs k d) (subst (NameBefore (name_of (get_or xs k d))) (equal_names _ name e) (before_at (λ x y. NameBefore (name_of x) (name_of y)) xs k i d up below lt)))
      (λ _. has-equal (get_or xs i d) e)

  pub searched : (xs : List X) → IsAscendingByName name_of xs → (r : Result ℕ ℕ) → IsSearchInRange r (length xs) → IsBinarySearchResult comparison xs r → result_ok r ≡ position has_name xs
  searched [] up (Ok i) in_range equal = absurd (omega arith)
  searched [] up (Err i) in_range parted = refl
  searched (x ∷ xs) up (Ok i) in_range equal = sym (found_at (x ∷ xs) i (sym (first_at (x ∷ xs) i x up in_range (equal x))) in_range)
  searched (x ∷ xs) up (Err i) in_range parted =
      let split = parted (comparisons_rise (x ∷ xs) up) in
      sym (found_nowhere (x ∷ xs) (position_or_len_is has_name (x ∷ xs) (length (x ∷ xs)) x (omega arith)
      (λ k below. elim (below_or_not k i) [ inl lt ↦ has-less _ (split.0 k x (omega arith) lt) | inr le ↦ has-greater _ (split.1 k x le below) ])
      (λ lt. absurd (omega arith))))
    where
      below_or_not : (k i : ℕ) → (k < i) ⊎ (i ≤ k)
      below_or_not k i = elim (cases_order k i) [ inl e ↦ inr (omega arith) | inr c ↦ elim c [ inl lt ↦ inl lt | inr gt ↦ inr (omega arith) ] ]

-- what stands at the place found
pub find-Some : {X : Type 0} (p : X → Bool) (xs : List X) (i : ℕ) → position p xs ≡ Some i → find p xs ≡ slice_get xs i
find-Some p xs i e = find_at p xs ∙ ap (slice_get xs) (grind (arith, nat_tests))

pub find-None : {X : Type 0} (p : X → Bool) (xs : List X) → position p xs ≡ None → find p xs ≡ None
find-None p xs e = find_at p xs ∙ slice_get_past xs (position_or_len p xs) (grind (arith, nat_tests))

-- what `get` lends
pub option_copied-get : {X : Type 0} (xs : List X) (i : ℕ) (r : Option (Bor X)) → is_some r ≡ nat_lt i (length xs) → IfSome r (λ x. x.now ≡ get_or xs i x.now) → option_copied r ≡ slice_get xs i
option_copied-get xs i None e h = let past : length xs ≤ i = grind (arith, nat_tests) in sym (slice_get_past xs i past)
option_copied-get xs i (Some x) e h = let within : i < length xs = grind (arith, nat_tests) in sym (slice_get_read xs (length xs) i x.now refl within h)
