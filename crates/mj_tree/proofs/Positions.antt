-- The first place in a list at which a test passes, and tests of names.
use Rattle.std.proofs.Common.{◌≡◌, ℕ, zero, suc, ◌+◌, ◌<◌, ◌≤◌, Bool, true, false, List, [], ◌∷◌, ◌++◌, length, map, Option, Some, None, refl, sym, ap, ◌∙◌, arith, inl, inr, cond, get_or, length-append, true≢false}
use Rattle.std.specs.Prelude.{not, is_some, find, position, nat_lt, nat_eq, slice_get, option_map, option_and_then}
use Rattle.std.specs.List.{position_or_len}
use Rattle.std.specs.Option.{option_or}
use Rattle.std.specs.Str.{bytes_eq}
use Rattle.std.specs.Ordering.{nat_cmp, is_eq}
use Rattle.std.specs.Cmp.Lexicographic.{slice_cmp}
use Rattle.std.proofs.lemmas.Bool.{cases_lt, false≢true}
use Rattle.std.proofs.lemmas.Bool.Decides.{Decides-ltb, Decides-eqb, same_from_decides}
use Rattle.std.proofs.lemmas.List.{length-map}
use Rattle.std.proofs.lemmas.List.Folds.{find_at, position_or_len_push}
use Rattle.std.proofs.lemmas.List.Quantifiers.{position-Some}
use Rattle.std.proofs.lemmas.List.Sums.{prefix_len-le-length}
use Rattle.std.proofs.lemmas.Map.Text.{is_eq-slice_cmp}
use Rattle.std.proofs.lemmas.Option.{slice_get_past, slice_get-map, slice_get_read}
use Rattle.std.proofs.lemmas.Slice.Eq.{bytes_eq-Decides}
use Rattle.mj_tree.specs.Trees.{Name}

-- ---- tests of names

pub same_name : (m n : Name) → bytes_eq m n ≡ true → m ≡ n
same_name m n e = (bytes_eq-Decides m n).0 e

pub bytes_eq_back : (m n : Name) → bytes_eq m n ≡ bytes_eq n m
bytes_eq_back m n = same_from_decides {P = m ≡ n} (bytes_eq m n) (bytes_eq n m) (bytes_eq-Decides m n) (λ e. sym (same_name n m e), λ e. (bytes_eq-Decides n m).1 (sym e))

-- ---- what stands under a name

pub or_nothing : {X : Type 0} (o : Option X) → o ≡ option_or o None
or_nothing None = refl
or_nothing (Some x) = refl

pub none_of : {X : Type 0} (o : Option X) → is_some o ≡ false → o ≡ None
none_of None e = refl
none_of (Some x) e = absurd (true≢false e)

-- a new name, which is put in
pub name_added : {X : Type 0} (found after : Name → Option X) (n : Name) (x : X) → is_some (found n) ≡ false
    → ((q : Name) → after q ≡ cond (is_eq (slice_cmp nat_cmp n q)) (Some x) (found q)) → (q : Name) → after q ≡ option_or (found q) (cond (bytes_eq n q) (Some x) None)
name_added found after n x new puts q = puts q ∙ (ap (λ b. cond b (Some x) (found q)) (is_eq-slice_cmp n q) ∙ by_test (bytes_eq n q) refl)
  where
    by_test : (b : Bool) → bytes_eq n q ≡ b → cond b (Some x) (found q) ≡ option_or (found q) (cond b (Some x) None)
    by_test true t =
        let nothing : found q ≡ None = ap found (sym (same_name n q t)) ∙ none_of (found n) new in
        sym (ap (λ o. option_or o (Some x)) nothing)
    by_test false t = or_nothing (found q)

-- ---- the first place

-- what is found is at the first place
pub find_from_position : {X : Type 0} (p : X → Bool) (xs : List X) (o : Option ℕ) → position p xs ≡ o → find p xs ≡ option_and_then (slice_get xs) o
find_from_position {X} p xs o e = go (nat_lt (position_or_len p xs) (length xs)) refl e
  where
    go : (b : Bool) → nat_lt (position_or_len p xs) (length xs) ≡ b → cond b (Some (position_or_len p xs)) None ≡ o → find p xs ≡ option_and_then (slice_get xs) o
    go true t e = find_at p xs ∙ ap (λ (q : Option ℕ). option_and_then (slice_get xs) q) e
    go false t e =
        let past : length xs ≤ position_or_len p xs = elim (cases_lt (position_or_len p xs) (length xs)) [
          | inl h ↦ absurd (false≢true (sym t ∙ (Decides-ltb (position_or_len p xs) (length xs)).1 h))
          | inr h ↦ h
        ] in
        find_at p xs ∙ (slice_get_past xs _ past ∙ ap (λ (q : Option ℕ). option_and_then (slice_get xs) q) e)

-- of an element that the code has
pub find_at_place : {X Y : Type 0} (f : X → Y) (p : Y → Bool) (xs : List X) (i : ℕ) (x : X) → position p (map f xs) ≡ Some i → i < length xs → x ≡ get_or xs i x → find p (map f xs) ≡ Some (f x)
find_at_place f p xs i x h lt is =
    find_from_position p (map f xs) (Some i) h ∙ (slice_get-map f xs i ∙ ap (option_map f) (slice_get_read xs (length xs) i x refl lt is))

pub position_below : {X : Type 0} (p : X → Bool) (xs : List X) (i : ℕ) → position p xs ≡ Some i → i < length xs
position_below p [] i e = absurd cc
position_below p (x ∷ xs) i e = (position-Some p (x ∷ xs) i x e).0

none_before : (n l : ℕ) → n ≤ l → cond (nat_lt n l) (Some n) None ≡ None → n ≡ l
none_before n l le e = go (nat_lt n l) refl e
  where
    go : (b : Bool) → nat_lt n l ≡ b → cond b (Some n) None ≡ None → n ≡ l
    go true t e = absurd cc
    go false t e = elim (cases_lt n l) [ inl h ↦ absurd (false≢true (sym t ∙ (Decides-ltb n l).1 h)) | inr h ↦ omega arith ]

some_before : (n l i : ℕ) → cond (nat_lt n l) (Some n) None ≡ Some i → (n < l) × (n ≡ i)
some_before n l i e = go (nat_lt n l) refl e
  where
    go : (b : Bool) → nat_lt n l ≡ b → cond b (Some n) None ≡ Some i → (n < l) × (n ≡ i)
    go true t e = ((Decides-ltb n l).0 t, cc)
    go false t e = absurd cc

it_is_before : (n l : ℕ) → n < l → cond (nat_lt n l) (Some n) None ≡ Some n
it_is_before n l h = let t = (Decides-ltb n l).1 h in rw t refl

it_is_none : (n l : ℕ) → l ≤ n → cond (nat_lt n l) (Some n) None ≡ None
it_is_none n l h = go (nat_lt n l) refl
  where
    go : (b : Bool) → nat_lt n l ≡ b → cond b (Some n) None ≡ None
    go true t = let lt = (Decides-ltb n l).0 t in absurd (omega arith)
    go false t = refl

-- the first place in a list that has one element more, by the first place before
pushed : {X : Type 0} (p : X → Bool) (xs : List X) (y : X) (o : Option ℕ) → (m : ℕ) → position_or_len p (xs ++ y ∷ []) ≡ m → m < length xs + 1 → o ≡ Some m → position p (xs ++ y ∷ []) ≡ o
pushed p xs y o m e lt is =
    let long = length-append xs (y ∷ []) in
    let below : m < length (xs ++ y ∷ []) = omega arith in
    rw e (it_is_before m (length (xs ++ y ∷ [])) below ∙ sym is)

nothing_pushed : {X : Type 0} (p : X → Bool) (xs : List X) (y : X) → position_or_len p (xs ++ y ∷ []) ≡ length xs + 1 → position p (xs ++ y ∷ []) ≡ None
nothing_pushed p xs y e =
    let long = length-append xs (y ∷ []) in
    let past : length (xs ++ y ∷ []) ≤ position_or_len p (xs ++ y ∷ []) = omega arith in
    it_is_none (position_or_len p (xs ++ y ∷ [])) (length (xs ++ y ∷ [])) past

-- one element more, which passes if none did
pub position_added : {X : Type 0} (p : X → Bool) (xs : List X) (y : X) → position p xs ≡ None → p y ≡ true → position p (xs ++ y ∷ []) ≡ Some (length xs)
position_added p xs y e t =
    let end = none_before (position_or_len p xs) (length xs) (prefix_len-le-length (λ x. not (p x)) xs) e in
    let here = (Decides-eqb (position_or_len p xs) (length xs)).1 end in
    let push : position_or_len p (xs ++ y ∷ []) ≡ length xs + 0 = position_or_len_push p xs y ∙ rw (here, t) refl in
    pushed p xs y (Some (length xs)) (length xs) (omega (arith, push)) (omega arith) refl

-- one element more, which does not pass or is not the first to pass
pub position_kept : {X : Type 0} (p : X → Bool) (xs : List X) (y : X) (o : Option ℕ) → position p xs ≡ o → (o ≡ None → p y ≡ false) → position p (xs ++ y ∷ []) ≡ o
position_kept p xs y None e fails =
    let end = none_before (position_or_len p xs) (length xs) (prefix_len-le-length (λ x. not (p x)) xs) e in
    let here = (Decides-eqb (position_or_len p xs) (length xs)).1 end in
    let t = fails refl in
    let push : position_or_len p (xs ++ y ∷ []) ≡ length xs + 1 = position_or_len_push p xs y ∙ rw (here, t) refl in
    nothing_pushed p xs y push
position_kept p xs y (Some i) e fails =
    let at = some_before (position_or_len p xs) (length xs) i e in
    let apart : nat_eq (position_or_len p xs) (length xs) ≡ false = differ (position_or_len p xs) (length xs) at.0 in
    let push : position_or_len p (xs ++ y ∷ []) ≡ position_or_len p xs = position_or_len_push p xs y ∙ rw apart refl in
    pushed p xs y (Some i) (position_or_len p xs) push (omega (arith, at.0)) (ap (λ (n : ℕ). Some n) (sym at.1))
  where
    differ : (n l : ℕ) → n < l → nat_eq n l ≡ false
    differ n l h = go (nat_eq n l) refl
      where
        go : (b : Bool) → nat_eq n l ≡ b → b ≡ false
        go true e = let same = (Decides-eqb n l).0 e in absurd (omega arith)
        go false e = refl

-- ---- through a view

pub find-map : {X Y : Type 0} (f : X → Y) (p : Y → Bool) (xs : List X) → find p (map f xs) ≡ option_map f (find (λ x. p (f x)) xs)
find-map f p [] = refl
find-map {X} f p (x ∷ xs) = by (p (f x)) (find-map f p xs)
  where
    by : (b : Bool) → find p (map f xs) ≡ option_map f (find (λ y. p (f y)) xs) → cond b (Some (f x)) (find p (map f xs)) ≡ option_map f (cond b (Some x) (find (λ y. p (f y)) xs))
    by true e = refl
    by false e = e

-- ---- what stands at a place

pub at_some : {X : Type 0} (xs : List X) (i : ℕ) → i < length xs → (x : X) × (slice_get xs i ≡ Some x)
at_some [] i lt = absurd (omega arith)
at_some (x ∷ xs) zero lt = (x, refl)
at_some (x ∷ xs) (suc i) lt = at_some xs i (omega arith)

-- what is read at a place
pub read_at : {X : Type 0} (xs : List X) (at : ℕ) (x : X) → at < length xs → x ≡ get_or xs at x → slice_get xs at ≡ Some x
read_at xs at x lt is = slice_get_read xs (length xs) at x refl lt is

pub view_at : {X Y : Type 0} (view : X → Y) (xs : List X) (at : ℕ) (x : X) → at < length (map view xs) → x ≡ get_or xs at x → slice_get (map view xs) at ≡ Some (view x)
view_at view xs at x lt is = slice_get-map view xs at ∙ ap (option_map view) (read_at xs at x (omega (arith, lt, length-map xs view)) is)

-- the first that passes a test is read at its place
pub found_first : {X Y : Type 0} (view : X → Y) (p : Y → Bool) (xs : List X) (ys : List Y) (i : ℕ) (x : X) → map view xs ≡ ys → position p ys ≡ Some i → x ≡ get_or xs i x → find p ys ≡ Some (view x)
found_first view p xs ys i x e h is =
    let below = position_below p ys i h in
    let at : position p (map view xs) ≡ Some i = ap (position p) e ∙ h in
    ap (find p) (sym e) ∙ find_at_place view p xs i x at (omega (arith, below, ap length e, length-map xs view)) is
