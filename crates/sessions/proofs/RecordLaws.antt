-- Records behind one another.
use Rattle.std.proofs.Common.{◌≡◌, true, ℕ, zero, suc, ◌<◌, ◌+◌, ◌-◌, ◌≤◌, List, [], ◌∷◌, ◌++◌, length, take, get_or, Some, inl, inr, refl, sym, ap, subst, arith}
use Rattle.std.specs.Prelude.{slice_get}
use Rattle.std.specs.List.{AllByRecursion}
use Rattle.std.specs.declared.cmp.Ordering.{Ordering}
use Rattle.std.specs.declared.cmp.Ordering.TheVariants.{Less, Equal, Greater}
use Rattle.std.specs.Ordering.{is_lt}
use Rattle.std.proofs.lemmas.List.{take-take, get_or-take, length-take, nil_from_length, get_or_read}
use Rattle.std.proofs.lemmas.Bool.{cases_eq}
use Rattle.item_ids.specs.declared.key.Key.{Key}
use Rattle.item_ids.specs.Keys.{key_cmp, key_total}
use Rattle.item_ids.proofs.Lists.{all_push, all_map}
use Rattle.sessions.specs.declared.fault.SessionFault.{SessionFault}
use Rattle.sessions.specs.declared.fault.SessionFault.TheVariants.{Number, KeyOrder, InputKind, BadEdge, Result, OutOfMemory}
use Rattle.sessions.specs.Sessions.{RecordValue, IsAbove, FitsBehind, AreRecords}
use Rattle.sessions.specs.Refusals.{RefusesRecords, IsRefused, HoldsUnlessMemory}
use Rattle.sessions.proofs.Lists.{all_last}

-- the first records, each of which fits
pub first_records : (records : List RecordValue) (i : ℕ) → ((k : ℕ) (r : RecordValue) → k < i → FitsBehind (take k records) (get_or records k r)) → AreRecords (take i records)
first_records records i h k r in_range =
    let lt : k < i = omega (arith, in_range, length-take i records) in
    let le : k ≤ i = omega arith in
    let front : take k (take i records) ≡ take k records = take-take k i records le in
    let item : get_or (take i records) k r ≡ get_or records k r = get_or-take i records k r lt in
    subst (λ (xs : List RecordValue). FitsBehind xs (get_or (take i records) k r)) (sym front) (subst (FitsBehind (take k records)) (sym item) (h k r lt))

split_last : {A : Type 0} (xs : List A) (n : ℕ) (x : A) → suc n ≡ length xs → Some x ≡ slice_get xs n → xs ≡ take n xs ++ x ∷ []
split_last [] n x len is = absurd cc
split_last (y ∷ ys) zero x len is = let none : ys ≡ [] = nil_from_length ys (omega (arith, len)) in cc
split_last (y ∷ ys) (suc n) x len is = ap (λ zs. y ∷ zs) (split_last ys n x (omega (arith, len)) is)

is_some_at : {A : Type 0} (xs : List A) (n : ℕ) (x : A) → Some x ≡ slice_get xs n → (n < length xs) × (get_or xs n x ≡ x)
is_some_at [] n x is = absurd cc
is_some_at (y ∷ ys) zero x is = (omega arith, let same : Some x ≡ Some y = is in cc)
is_some_at (y ∷ ys) (suc n) x is = let h = is_some_at ys n x is in (omega (arith, h.0), h.1)

-- a key greater than the last one is greater than all
pub above_last : (front : List RecordValue) (n : ℕ) (last : RecordValue) (key : Key) → AreRecords front → n ≡ length front - 1 → Some last ≡ slice_get front n → key_cmp last.key key ≡ Less → IsAbove front key
above_last front n last key are n-is is less =
    let at = is_some_at front n last is in
    let len : suc n ≡ length front = omega (arith, n-is, at.0) in
    let whole = split_last front n last len is in
    let fits : FitsBehind (take n front) last = subst (FitsBehind (take n front)) at.1 (are n last at.0) in
    let lower : AllByRecursion (λ r. key_cmp r.key key ≡ Less) (take n front) = all_map (λ r. key_cmp r.key last.key ≡ Less) (λ r. key_cmp r.key key ≡ Less) (λ r h. key_total.trans r.key last.key key h less) (take n front) fits.above in
    subst (λ (xs : List RecordValue). AllByRecursion (λ r. key_cmp r.key key ≡ Less) xs) (sym whole) (all_push (λ r. key_cmp r.key key ≡ Less) (take n front) last lower less)

pub last_below : (front : List RecordValue) (n : ℕ) (last : RecordValue) (key : Key) → n ≡ length front - 1 → Some last ≡ slice_get front n → IsAbove front key → key_cmp last.key key ≡ Less
last_below front n last key n-is is above =
    let at = is_some_at front n last is in
    let len : suc n ≡ length front = omega (arith, n-is, at.0) in
    let whole = split_last front n last len is in
    all_last (λ r. key_cmp r.key key ≡ Less) (take n front) last (subst (λ (xs : List RecordValue). AllByRecursion (λ r. key_cmp r.key key ≡ Less) xs) whole above)

pub less_of_test : (o : Ordering) → is_lt o ≡ true → o ≡ Less
less_of_test Less e = refl
less_of_test Equal e = absurd cc
less_of_test Greater e = absurd cc

pub test_of_less : (o : Ordering) → o ≡ Less → is_lt o ≡ true
test_of_less o e = ap is_lt e

-- one more record that fits
pub fits_more : (records : List RecordValue) (i : ℕ) (x : RecordValue) → i < length records → x ≡ get_or records i x → ((k : ℕ) (r : RecordValue) → k < i → FitsBehind (take k records) (get_or records k r)) → FitsBehind (take i records) x
    → (k : ℕ) (r : RecordValue) → k < i + 1 → FitsBehind (take k records) (get_or records k r)
fits_more records i x lt is so_far here k r lt_k =
    elim (cases_eq k i) [
      | inl same ↦ subst (λ (n : ℕ). FitsBehind (take n records) (get_or records n r)) (sym same) (subst (FitsBehind (take i records)) (get_or_read records i x lt is r) here)
      | inr other ↦ so_far k r (omega (arith, lt_k, other))
    ]

some_record : (records : List RecordValue) (i : ℕ) → i < length records → RecordValue
some_record [] i lt = absurd (omega arith)
some_record (r ∷ records) i lt = r

-- the fault of the records is that of the session
pub refused_of : (number : ℕ) (records : List RecordValue) (fault : SessionFault) → number ≤ 9999 → HoldsUnlessMemory fault (RefusesRecords records fault) → IsRefused number records fault
refused_of number records Number le h = absurd (h.refused (some_record records h.index h.inside))
refused_of number records (KeyOrder i) le h = (le, h)
refused_of number records (InputKind i) le h = (le, h)
refused_of number records (BadEdge i j) le h = (le, h)
refused_of number records (Result i) le h = (le, h)
refused_of number records OutOfMemory le h = le
