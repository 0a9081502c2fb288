-- First reads of keys, and their places.
use Rattle.std.proofs.Common.{◌≡◌, ℕ, suc, ◌<◌, Bool, true, false, cond, if◌then◌else◌, List, [], ◌∷◌, ◌++◌, length, get_or, Option, Some, None, is_some, option_map, Contains, refl, sym, ap, ◌∙◌, subst, arith}
use Rattle.std.specs.Prelude.{MatchOption}
use Rattle.std.specs.Ordering.{is_eq}
use Rattle.std.proofs.lemmas.Option.{same_Some}
use Rattle.std.proofs.lemmas.List.Elements.{Contains-append_left, Contains-append_right, Contains-push}
use Rattle.item_ids.specs.declared.key.Key.{Key}
use Rattle.item_ids.specs.Keys.{key_cmp}
use Rattle.item_ids.specs.Places.{with_place}
use Rattle.item_ids.proofs.Apart.{test_same, test_itself}
use Rattle.recorder.specs.Backed.{ReadValue}
use Rattle.recorder.specs.Places.{first_place}
use Rattle.recorder.specs.Recording.{IsUnread, first_read}

differs : false ≡ true → ⊥
differs e = cc

-- ---- places

-- behind one more item each place is one farther
farther : (k q : Key) (n : ℕ) (o : Option ℕ) → option_map suc (with_place (λ _. o) k n q) ≡ with_place (λ _. option_map suc o) k (suc n) q
farther k q n (Some j) = refl
farther k q n None = go (is_eq (key_cmp k q))
  where
    go : (b : Bool) → option_map suc (if b then Some n else None) ≡ (if b then Some (suc n) else None)
    go true = refl
    go false = refl

-- with one more read its key has the last place, unless it has one
pub place_last : (told : List ReadValue) (t : ReadValue) (q : Key) → first_place (told ++ t ∷ []) q ≡ with_place (first_place told) t.key (length told) q
place_last [] t q = refl
place_last (x ∷ xs) t q = go (place_last xs t q) (is_eq (key_cmp x.key q))
  where
    go : first_place (xs ++ t ∷ []) q ≡ with_place (first_place xs) t.key (length xs) q → (b : Bool)
        → (if b then Some 0 else option_map suc (first_place (xs ++ t ∷ []) q)) ≡ with_place (λ _. if b then Some 0 else option_map suc (first_place xs q)) t.key (suc (length xs)) q
    go ih true = refl
    go ih false = ap (option_map suc) ih ∙ farther t.key q (length xs) (first_place xs q)

pub no_place : (o : Option ℕ) → is_some o ≡ false → o ≡ None
no_place None e = refl
no_place (Some i) e = absurd (differs (sym e))

-- a key that wasn't read has none
pub unread_place : (told : List ReadValue) (k : Key) → IsUnread k told → first_place told k ≡ None
unread_place [] k u = refl
unread_place (x ∷ xs) k u = go (unread_place xs k u.1) (is_eq (key_cmp x.key k)) refl
  where
    go : first_place xs k ≡ None → (b : Bool) → is_eq (key_cmp x.key k) ≡ b → (if b then Some 0 else option_map suc (first_place xs k)) ≡ None
    go ih true e = absurd (u.0 (test_same x.key k e))
    go ih false e = ap (option_map suc) ih

-- ---- the first read of a key

-- its place is within the list
pub first_below : (told : List ReadValue) (k : Key) (i : ℕ) → first_place told k ≡ Some i → i < length told
first_below [] k i e = absurd cc
first_below (x ∷ xs) k i e = go (first_below xs k) (is_eq (key_cmp x.key k)) e
  where
    step : ((j : ℕ) → first_place xs k ≡ Some j → j < length xs) → (o : Option ℕ) → first_place xs k ≡ o → option_map suc o ≡ Some i → i < suc (length xs)
    step ih None h e = absurd cc
    step ih (Some j) h e = omega (arith, ih j h, same_Some (suc j) i e)

    go : ((j : ℕ) → first_place xs k ≡ Some j → j < length xs) → (b : Bool) → (if b then Some 0 else option_map suc (first_place xs k)) ≡ Some i → i < suc (length xs)
    go ih true e = omega (arith, same_Some 0 i e)
    go ih false e = step ih (first_place xs k) refl e

-- it stands at its place
pub first_at : (told : List ReadValue) (k : Key) (i : ℕ) (d : ReadValue) → first_place told k ≡ Some i → first_read k told ≡ Some (get_or told i d)
first_at [] k i d e = absurd cc
first_at (x ∷ xs) k i d e = go (λ j h. first_at xs k j d h) (is_eq (key_cmp x.key k)) e
  where
    Stands : Bool → ℕ → Type 0
    Stands b n = cond b (Some x) (first_read k xs) ≡ Some (get_or (x ∷ xs) n d)

    step : ((j : ℕ) → first_place xs k ≡ Some j → first_read k xs ≡ Some (get_or xs j d)) → (o : Option ℕ) → first_place xs k ≡ o → option_map suc o ≡ Some i → Stands false i
    step ih None h e = absurd cc
    step ih (Some j) h e = subst (Stands false) (same_Some (suc j) i e) (ih j h)

    go : ((j : ℕ) → first_place xs k ≡ Some j → first_read k xs ≡ Some (get_or xs j d)) → (b : Bool) → (if b then Some 0 else option_map suc (first_place xs k)) ≡ Some i → Stands b i
    go ih true e = subst (Stands true) (same_Some 0 i e) refl
    go ih false e = step ih (first_place xs k) refl e

-- without a place there is none
pub none_first : (told : List ReadValue) (k : Key) → first_place told k ≡ None → first_read k told ≡ None
none_first [] k e = refl
none_first (x ∷ xs) k e = go (none_first xs k) (is_eq (key_cmp x.key k)) e
  where
    step : (first_place xs k ≡ None → first_read k xs ≡ None) → (o : Option ℕ) → first_place xs k ≡ o → option_map suc o ≡ None → first_read k xs ≡ None
    step ih None h e = ih h
    step ih (Some j) h e = absurd cc

    go : (first_place xs k ≡ None → first_read k xs ≡ None) → (b : Bool) → (if b then Some 0 else option_map suc (first_place xs k)) ≡ None → cond b (Some x) (first_read k xs) ≡ None
    go ih true e = absurd cc
    go ih false e = step ih (first_place xs k) refl e

-- what it says of the key
abbrev pub Finds : List ReadValue → Key → Option ReadValue → Type 0
Finds told k o = MatchOption o (IsUnread k told) (λ t. (t.key ≡ k) × Contains told t)

later : (x : ReadValue) (xs : List ReadValue) (k : Key) → is_eq (key_cmp x.key k) ≡ false → (o : Option ReadValue) → Finds xs k o → Finds (x ∷ xs) k o
later x xs k e None u = ((λ same. differs (sym e ∙ test_itself x.key k same)), u)
later x xs k e (Some t) f = (f.0, Contains-append_right (x ∷ []) xs t f.1)

pub first_found : (told : List ReadValue) (k : Key) → Finds told k (first_read k told)
first_found [] k = tt
first_found (x ∷ xs) k = go (first_found xs k) (is_eq (key_cmp x.key k)) refl
  where
    go : Finds xs k (first_read k xs) → (b : Bool) → is_eq (key_cmp x.key k) ≡ b → Finds (x ∷ xs) k (cond b (Some x) (first_read k xs))
    go ih true e = (test_same x.key k e, Contains-append_left (x ∷ []) xs x (Contains-push [] x))
    go ih false e = later x xs k e (first_read k xs) ih
