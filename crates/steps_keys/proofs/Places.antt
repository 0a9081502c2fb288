-- Places of keys in a list that grows.
use Rattle.std.proofs.Common.{◌≡◌, ◌≢◌, ℕ, zero, suc, ◌<◌, Bool, true, false, if◌then◌else◌, List, [], ◌∷◌, ◌++◌, length, length-append, Option, Some, None, is_some, sym, ap, ◌∙◌, subst, refl, arith, true≢false}
use Rattle.std.specs.List.{HoldsAt}
use Rattle.std.specs.Ordering.{is_eq}
use Rattle.steps_keys.specs.declared.key.Key.{Key}
use Rattle.steps_keys.specs.Keys.{key_cmp}
use Rattle.steps_keys.specs.Places.{IsMissing, IsPlace, ArePlaces, with_place}
use Rattle.steps_keys.proofs.Apart.{test_same, test_itself}
use Rattle.steps_keys.proofs.Lists.{all_push}

module _ {A : Type 0} where
  -- what holds at a place holds there in a longer list
  at_more : (P : A → Type 0) (xs : List A) (x : A) (i : ℕ) → i < length xs → HoldsAt P xs i → HoldsAt P (xs ++ x ∷ []) i
  at_more P [] x i l h = absurd (omega (arith, l))
  at_more P (y ∷ ys) x zero l h = h
  at_more P (y ∷ ys) x (suc i) l h = at_more P ys x i (omega (arith, l)) h

  at_last : (P : A → Type 0) (xs : List A) (x : A) → P x → HoldsAt P (xs ++ x ∷ []) (length xs)
  at_last P [] x p = λ d. p
  at_last P (y ∷ ys) x p = at_last P ys x p

  longer : (xs : List A) (x : A) → length xs < length (xs ++ x ∷ [])
  longer xs x = omega (arith, length-append xs (x ∷ []))

module _ {A : Type 0} (key : A → Key) (xs : List A) (x : A) (q : Key) where
  at_test : (b : Bool) → is_eq (key_cmp (key x) q) ≡ b → IsMissing key xs q → IsPlace key (xs ++ x ∷ []) q (if b then Some (length xs) else None)
  at_test true e u = (longer xs x, at_last (λ y. key y ≡ q) xs x (test_same (key x) q e))
  at_test false e u = all_push (λ y. key y ≢ q) xs x u (λ same. true≢false (sym (test_itself (key x) q same) ∙ e))

  at_place : (o : Option ℕ) → IsPlace key xs q o → IsPlace key (xs ++ x ∷ []) q (with_place (λ _. o) (key x) (length xs) q)
  at_place None u = at_test (is_eq (key_cmp (key x) q)) refl u
  at_place (Some i) p = (omega (arith, p.0, longer xs x), at_more (λ y. key y ≡ q) xs x i p.0 p.1)

-- the places of a list with one more item, whose key gets the last place unless it has one
pub places_more : {A : Type 0} (key : A → Key) (xs : List A) (x : A) (place new : Key → Option ℕ) → ArePlaces key xs place → ((q : Key) → new q ≡ with_place place (key x) (length xs) q) → ArePlaces key (xs ++ x ∷ []) new
places_more key xs x place new h w q = subst (IsPlace key (xs ++ x ∷ []) q) (sym (w q)) (at_place key xs x q (place q) (h q))

-- an item at the place of its key
pub item_at : {A : Type 0} (key : A → Key) (xs : List A) (place : Key → Option ℕ) (k : Key) (i : ℕ) → ArePlaces key xs place → place k ≡ Some i → (i < length xs) × HoldsAt (λ x. key x ≡ k) xs i
item_at key xs place k i h e = subst (IsPlace key xs k) e (h k)

-- no item of a key without a place
pub none_at : {A : Type 0} (key : A → Key) (xs : List A) (place : Key → Option ℕ) (k : Key) → ArePlaces key xs place → place k ≡ None → IsMissing key xs k
none_at key xs place k h e = subst (IsPlace key xs k) e (h k)

-- ---- noting a place

-- a key that has a place keeps it
pub place_kept : (place : Key → Option ℕ) (k : Key) (i : ℕ) → is_some (place k) ≡ true → (q : Key) → place q ≡ with_place place k i q
place_kept place k i h q = go (place q) refl (is_eq (key_cmp k q)) refl
  where
    go : (o : Option ℕ) → place q ≡ o → (b : Bool) → is_eq (key_cmp k q) ≡ b → place q ≡ with_place place k i q
    go (Some j) e b t = e ∙ sym (ap (λ o. with_place (λ _. o) k i q) e)
    go None e true t = absurd (true≢false (sym h ∙ ap is_some (ap place (test_same k q t) ∙ e)))
    go None e false t = e ∙ sym (ap (λ b. if b then Some i else None) t) ∙ sym (ap (λ o. with_place (λ _. o) k i q) e)

-- a key that had none has this one
pub place_added : (place new : Key → Option ℕ) (k : Key) (i : ℕ) → is_some (place k) ≡ false → ((q : Key) → new q ≡ (if is_eq (key_cmp k q) then Some i else place q)) → (q : Key) → new q ≡ with_place place k i q
place_added place new k i h w q = go (place q) refl (is_eq (key_cmp k q)) refl
  where
    go : (o : Option ℕ) → place q ≡ o → (b : Bool) → is_eq (key_cmp k q) ≡ b → new q ≡ with_place place k i q
    go (Some j) e true t = absurd (true≢false (sym (ap is_some (ap place (test_same k q t) ∙ e)) ∙ h))
    go (Some j) e false t = w q ∙ ap (λ b. if b then Some i else place q) t ∙ e ∙ sym (ap (λ o. with_place (λ _. o) k i q) e)
    go None e true t = w q ∙ ap (λ b. if b then Some i else place q) t ∙ sym (ap (λ b. if b then Some i else None) t) ∙ sym (ap (λ o. with_place (λ _. o) k i q) e)
    go None e false t = w q ∙ ap (λ b. if b then Some i else place q) t ∙ e ∙ sym (ap (λ b. if b then Some i else None) t) ∙ sym (ap (λ o. with_place (λ _. o) k i q) e)
