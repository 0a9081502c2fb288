-- Places at which a test holds, and parts of ascending lists of places.
use Rattle.std.proofs.Common.{◌≡◌, ◌∙◌, ◌&&◌, Option, Some, find, ℕ, zero, suc, ◌+◌, ◌-◌, ◌<◌, ◌≤◌, Bool, true, false, cond, List, [], ◌∷◌, ◌++◌, length, take, drop, refl, sym, ap, arith, lt-ltb, le-ltb, le-leb}
use Rattle.std.specs.Prelude.{nat_lt, nat_le}
use Rattle.std.specs.List.{AllWithin, filter, range_with_len}
use Rattle.std.specs.List.Sorted.{IsNonDecreasing}
use Rattle.std.proofs.lemmas.Bool.{lt-leb}
use Rattle.std.proofs.lemmas.List.{append-nil}
use Rattle.std.proofs.lemmas.List.Elements.{filter-append}
use Rattle.file_index.specs.Lines.{places_where}

-- ---- the front of a list, if the test holds up to a place and then no more

-- what holds behind the first element, from the second on
tail_within : (P : ℕ → Type 0) (x : ℕ) (xs : List ℕ) (low high : ℕ) → AllWithin P (x ∷ xs) (suc low) (suc high) → AllWithin P xs low high
tail_within P x xs low high all k d from to = all (suc k) d (omega arith) (omega arith)

take_nothing : (n : ℕ) → take {A = ℕ} n [] ≡ []
take_nothing zero = refl
take_nothing (suc n) = refl

drop_nothing : (n : ℕ) → drop {A = ℕ} n [] ≡ []
drop_nothing zero = refl
drop_nothing (suc n) = refl

pub front_is : (q : ℕ → Bool) (xs : List ℕ) (i : ℕ) → i ≤ length xs → AllWithin (λ x. q x ≡ true) xs 0 i → AllWithin (λ x. q x ≡ false) xs i (length xs) → filter q xs ≡ take i xs
front_is q [] i in_range front back = sym (take_nothing i)
front_is q (x ∷ xs) zero in_range front back =
    let other : q x ≡ false = back 0 0 (omega arith) (omega arith) in
    rw other (front_is q xs zero (omega arith) (λ k d from to. absurd (omega arith)) (λ k d from to. back (suc k) d (omega arith) (omega arith)))
front_is q (x ∷ xs) (suc i) in_range front back =
    let here : q x ≡ true = front 0 0 (omega arith) (omega arith) in
    rw here (ap (λ ys. x ∷ ys) (front_is q xs i (omega arith) (tail_within (λ y. q y ≡ true) x xs 0 i (λ k d from to. front k d (omega arith) to)) (tail_within (λ y. q y ≡ false) x xs i (length xs) back)))

-- the rest of the list, if another test fails up to a place and holds from it on
pub rest_is : (r : ℕ → Bool) (xs : List ℕ) (i : ℕ) → i ≤ length xs → AllWithin (λ x. r x ≡ false) xs 0 i → AllWithin (λ x. r x ≡ true) xs i (length xs) → filter r xs ≡ drop i xs
rest_is r [] i in_range front back = sym (drop_nothing i)
rest_is r (x ∷ xs) zero in_range front back =
    let here : r x ≡ true = back 0 0 (omega arith) (omega arith) in
    rw here (ap (λ ys. x ∷ ys) (rest_is r xs zero (omega arith) (λ k d from to. absurd (omega arith)) (λ k d from to. back (suc k) d (omega arith) (omega arith))))
rest_is r (x ∷ xs) (suc i) in_range front back =
    let other : r x ≡ false = front 0 0 (omega arith) (omega arith) in
    rw other (rest_is r xs i (omega arith) (tail_within (λ y. r y ≡ false) x xs 0 i (λ k d from to. front k d (omega arith) to)) (tail_within (λ y. r y ≡ true) x xs i (length xs) back))

-- ---- numbers

range_split : (a m n : ℕ) → range_with_len a (m + n) ≡ range_with_len a m ++ range_with_len (a + m) n
range_split a zero n =
    let none : zero + n ≡ n = omega arith in
    let same : a + zero ≡ a = omega arith in
    ap (range_with_len a) none ∙ ap (λ k. range_with_len k n) (sym same)
range_split a (suc m) n =
    let more : suc m + n ≡ suc (m + n) = omega arith in
    let on : (a + 1) + m ≡ a + suc m = omega arith in
    ap (range_with_len a) more ∙ ap (λ xs. a ∷ xs) (range_split (a + 1) m n ∙ ap (λ k. range_with_len (a + 1) m ++ range_with_len k n) on)

pub split : (test : ℕ → Bool) (low middle high : ℕ) → low ≤ middle → middle ≤ high → places_where test low high ≡ places_where test low middle ++ places_where test middle high
split test low middle high first second =
    let parts : high - low ≡ (middle - low) + (high - middle) = omega arith in
    let on : low + (middle - low) ≡ middle = omega arith in
    ap (λ n. filter test (range_with_len low n)) parts
    ∙ (ap (filter test) (range_split low (middle - low) (high - middle))
    ∙ (filter-append test (range_with_len low (middle - low)) (range_with_len (low + (middle - low)) (high - middle))
    ∙ ap (λ k. filter test (range_with_len low (middle - low)) ++ filter test (range_with_len k (high - middle))) on))

-- ---- of places, those that another test admits

one_not : (q : ℕ → Bool) (b : Bool) (x : ℕ) (xs : List ℕ) → q x ≡ false → filter q xs ≡ [] → filter q (cond b (x ∷ xs) xs) ≡ []
one_not q true x xs other none = rw other none
one_not q false x xs other none = none

one_more : (q : ℕ → Bool) (b : Bool) (x : ℕ) (xs : List ℕ) → q x ≡ true → filter q xs ≡ xs → filter q (cond b (x ∷ xs) xs) ≡ cond b (x ∷ xs) xs
one_more q true x xs here all = rw here (ap (λ ys. x ∷ ys) all)
one_more q false x xs here all = all

none_before : (test : ℕ → Bool) (bound a n : ℕ) → bound ≤ a → filter (λ x. nat_lt x bound) (filter test (range_with_len a n)) ≡ []
none_before test bound a zero past = refl
none_before test bound a (suc n) past = one_not (λ x. nat_lt x bound) (test a) a (filter test (range_with_len (a + 1) n)) (le-ltb a bound past) (none_before test bound (a + 1) n (omega arith))

all_before : (test : ℕ → Bool) (bound a n : ℕ) → a + n ≤ bound → filter (λ x. nat_lt x bound) (filter test (range_with_len a n)) ≡ filter test (range_with_len a n)
all_before test bound a zero below = refl
all_before test bound a (suc n) below = one_more (λ x. nat_lt x bound) (test a) a (filter test (range_with_len (a + 1) n)) (lt-ltb a bound (omega arith)) (all_before test bound (a + 1) n (omega arith))

none_from : (test : ℕ → Bool) (bound a n : ℕ) → a + n ≤ bound → filter (λ x. nat_le bound x) (filter test (range_with_len a n)) ≡ []
none_from test bound a zero below = refl
none_from test bound a (suc n) below = one_not (λ x. nat_le bound x) (test a) a (filter test (range_with_len (a + 1) n)) (lt-leb bound a (omega arith)) (none_from test bound (a + 1) n (omega arith))

all_from : (test : ℕ → Bool) (bound a n : ℕ) → bound ≤ a → filter (λ x. nat_le bound x) (filter test (range_with_len a n)) ≡ filter test (range_with_len a n)
all_from test bound a zero past = refl
all_from test bound a (suc n) past = one_more (λ x. nat_le bound x) (test a) a (filter test (range_with_len (a + 1) n)) (le-leb bound a (omega arith)) (all_from test bound (a + 1) n (omega arith))

-- of all places up to `high` those before a bound, and of these those from another bound on
pub before_is : (test : ℕ → Bool) (bound high : ℕ) → bound ≤ high → filter (λ x. nat_lt x bound) (places_where test 0 high) ≡ places_where test 0 bound
before_is test bound high below =
    ap (filter (λ x. nat_lt x bound)) (split test 0 bound high (omega arith) below)
    ∙ (filter-append (λ x. nat_lt x bound) (places_where test 0 bound) (places_where test bound high)
    ∙ (ap (λ ys. ys ++ filter (λ x. nat_lt x bound) (places_where test bound high)) (all_before test bound 0 (bound - 0) (omega arith))
    ∙ (ap (λ ys. places_where test 0 bound ++ ys) (none_before test bound bound (high - bound) (omega arith))
    ∙ append-nil (places_where test 0 bound))))

pub from_is : (test : ℕ → Bool) (bound high : ℕ) → bound ≤ high → filter (λ x. nat_le bound x) (places_where test 0 high) ≡ places_where test bound high
from_is test bound high below =
    ap (filter (λ x. nat_le bound x)) (split test 0 bound high (omega arith) below)
    ∙ (filter-append (λ x. nat_le bound x) (places_where test 0 bound) (places_where test bound high)
    ∙ (ap (λ ys. ys ++ filter (λ x. nat_le bound x) (places_where test bound high)) (none_from test bound 0 (bound - 0) (omega arith))
    ∙ all_from test bound bound (high - bound) (omega arith)))

-- one place more
pub one_place_more : (test : ℕ → Bool) (n : ℕ) → places_where test 0 (n + 1) ≡ places_where test 0 n ++ cond (test n) (n ∷ []) []
one_place_more test n =
    let one : (n + 1) - n ≡ suc zero = omega arith in
    split test 0 n (n + 1) (omega arith) (omega arith)
    ∙ ap (λ m. places_where test 0 n ++ filter test (range_with_len n m)) one

-- ---- they ascend

cond_within : (P : ℕ → Type 0) (b : Bool) (x : ℕ) (xs : List ℕ) → P x → AllWithin P xs 0 (length xs) → AllWithin P (cond b (x ∷ xs) xs) 0 (length (cond b (x ∷ xs) xs))
cond_within P true x xs here all zero d from to = here
cond_within P true x xs here all (suc k) d from to = all k d (omega arith) (omega arith)
cond_within P false x xs here all k d from to = all k d from to

low_within : (test : ℕ → Bool) (low a n : ℕ) → low ≤ a → AllWithin (λ x. low ≤ x) (filter test (range_with_len a n)) 0 (length (filter test (range_with_len a n)))
low_within test low a zero le k d from to = absurd (omega arith)
low_within test low a (suc n) le k d from to = cond_within (λ x. low ≤ x) (test a) a (filter test (range_with_len (a + 1) n)) le (low_within test low (a + 1) n (omega arith)) k d from to

cons_ascends : (b : Bool) (x : ℕ) (xs : List ℕ) → AllWithin (λ y. x ≤ y) xs 0 (length xs) → IsNonDecreasing xs → IsNonDecreasing (cond b (x ∷ xs) xs)
cons_ascends true x xs above up zero zero d le lt = omega arith
cons_ascends true x xs above up zero (suc j) d le lt = above j d (omega arith) (omega arith)
cons_ascends true x xs above up (suc i) zero d le lt = absurd (omega arith)
cons_ascends true x xs above up (suc i) (suc j) d le lt = up i j d (omega arith) (omega arith)
cons_ascends false x xs above up i j d le lt = up i j d le lt

range_ascends : (test : ℕ → Bool) (a n : ℕ) → IsNonDecreasing (filter test (range_with_len a n))
range_ascends test a zero i j d le lt = absurd (omega arith)
range_ascends test a (suc n) i j d le lt = cons_ascends (test a) a (filter test (range_with_len (a + 1) n)) (low_within test a (a + 1) n (omega arith)) (range_ascends test (a + 1) n) i j d le lt

pub places_ascend : (test : ℕ → Bool) (low high : ℕ) → IsNonDecreasing (places_where test low high)
places_ascend test low high i j d le lt = range_ascends test low (high - low) i j d le lt

-- ---- places with a bound

high_within : (test : ℕ → Bool) (high a n : ℕ) → a + n ≤ high → AllWithin (λ x. x < high) (filter test (range_with_len a n)) 0 (length (filter test (range_with_len a n)))
high_within test high a zero le k d from to = absurd (omega arith)
high_within test high a (suc n) le k d from to = cond_within (λ x. x < high) (test a) a (filter test (range_with_len (a + 1) n)) (omega arith) (high_within test high (a + 1) n (omega arith)) k d from to

pub places_from : (test : ℕ → Bool) (low high : ℕ) → AllWithin (λ x. low ≤ x) (places_where test low high) 0 (length (places_where test low high))
places_from test low high k d from to = low_within test low low (high - low) (omega arith) k d from to

pub places_below : (test : ℕ → Bool) (low high most : ℕ) → low ≤ high → high ≤ most → AllWithin (λ x. x < most) (places_where test low high) 0 (length (places_where test low high))
places_below test low high most order le k d from to = high_within test most low (high - low) (omega arith) k d from to

-- of all places those from one bound to before another
pub within_is : (test : ℕ → Bool) (low high most : ℕ) (all : List ℕ) → low ≤ high → high ≤ most → all ≡ places_where test 0 most → filter (λ x. nat_le low x) (filter (λ x. nat_lt x high) all) ≡ places_where test low high
within_is test low high most all order le is =
    ap (λ xs. filter (λ x. nat_le low x) (filter (λ x. nat_lt x high) xs)) is
    ∙ (ap (filter (λ x. nat_le low x)) (before_is test high most le) ∙ from_is test low high order)

-- the first number at which two tests hold is the first among the places of one at which the other holds
find_one : (p q : ℕ → Bool) (b : Bool) (x : ℕ) (xs : List ℕ) (rest : Option ℕ) → find q xs ≡ rest → cond (b && q x) (Some x) rest ≡ find q (cond b (x ∷ xs) xs)
find_one p q true x xs rest is = by (q x) refl
  where
    by : (c : Bool) → q x ≡ c → cond (q x) (Some x) rest ≡ find q (x ∷ xs)
    by c e = ap (λ r. cond (q x) (Some x) r) (sym is)
find_one p q false x xs rest is = sym is

pub find_both : (p q : ℕ → Bool) (a n : ℕ) → find (λ x. p x && q x) (range_with_len a n) ≡ find q (filter p (range_with_len a n))
find_both p q a zero = refl
find_both p q a (suc n) = find_one p q (p a) a (filter p (range_with_len (a + 1) n)) _ (sym (find_both p q (a + 1) n))
