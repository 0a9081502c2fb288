-- Whether a key stands in a list.
use Rattle.std.proofs.Common.{◌≡◌, ◌≢◌, ◌⊎◌, inl, inr, Contains, Bool, true, false, List, [], ◌∷◌, ◌++◌, sym, ◌∙◌, ap, subst, refl, if◌then◌else◌}
use Rattle.std.specs.List.{AllByRecursion}
use Rattle.std.specs.Ordering.{is_eq}
use Rattle.item_ids.specs.declared.key.Key.{Key}
use Rattle.item_ids.specs.Keys.{key_cmp}
use Rattle.item_ids.proofs.Apart.{test_same, test_itself}
use Rattle.result_bytes.specs.declared.value.Value.{Value}
use Rattle.recorder.specs.Backed.{ReadValue, Alike, keys, is_seen}
use Rattle.recorder.specs.Recording.{IsUnread}
use Rattle.recorder.proofs.Recorded.{all_at}

differs : false ≡ true → ⊥
differs e = cc

-- a key stands in the list, or it is none of its keys
seen_cases : (ks : List Key) (k : Key) → (is_seen ks k ≡ true) ⊎ AllByRecursion (λ x. x ≢ k) ks
seen_cases [] k = inr tt
seen_cases (x ∷ xs) k = go (seen_cases xs k) (is_eq (key_cmp x k)) refl
  where
    go : (is_seen xs k ≡ true) ⊎ AllByRecursion (λ y. y ≢ k) xs → (b : Bool) → is_eq (key_cmp x k) ≡ b → (is_seen (x ∷ xs) k ≡ true) ⊎ AllByRecursion (λ y. y ≢ k) (x ∷ xs)
    go ih true e = inl (ap (λ b. if b then true else is_seen xs k) e)
    go ih false e = elim ih [
      | inl h ↦ inl (ap (λ b. if b then true else is_seen xs k) e ∙ h)
      | inr h ↦ inr ((λ same. differs (sym e ∙ test_itself x k same)), h)
    ]

by_keys : (P : Key → Type 0) (told : List ReadValue) → AllByRecursion P (keys told) → AllByRecursion (λ t. P t.key) told
by_keys P [] h = tt
by_keys P (t ∷ ts) h = (h.0, by_keys P ts h.1)

pub seen_told : (told : List ReadValue) (t : ReadValue) → Contains told t → is_seen (keys told) t.key ≡ true
seen_told told t c = elim (seen_cases (keys told) t.key) [
  | inl h ↦ h
  | inr h ↦ absurd (all_at (λ s. s.key ≢ t.key) told t c (by_keys (λ k. k ≢ t.key) told h) refl)
]

pub unseen_unread : (told : List ReadValue) (k : Key) → IsUnread k told → is_seen (keys told) k ≡ false
unseen_unread [] k u = refl
unseen_unread (t ∷ ts) k u = go (unseen_unread ts k u.1) (is_eq (key_cmp t.key k)) refl
  where
    go : is_seen (keys ts) k ≡ false → (b : Bool) → is_eq (key_cmp t.key k) ≡ b → is_seen (keys (t ∷ ts)) k ≡ false
    go ih true e = absurd (u.0 (test_same t.key k e))
    go ih false e = ap (λ b. if b then true else is_seen (keys ts) k) e ∙ ih

-- two meanings agree at a key that was seen
pub seen_alike : (m n : Key → Value) (ks : List Key) (k : Key) → is_seen ks k ≡ true → Alike m n ks → m k ≡ n k
seen_alike m n [] k e a = cc
seen_alike m n (x ∷ xs) k e a = go (λ h. seen_alike m n xs k h a.1) (is_eq (key_cmp x k)) refl
  where
    go : (is_seen xs k ≡ true → m k ≡ n k) → (b : Bool) → is_eq (key_cmp x k) ≡ b → m k ≡ n k
    go ih true h = subst (λ y. m y ≡ n y) (test_same x k h) a.0
    go ih false h = ih (sym (ap (λ b. if b then true else is_seen xs k) h) ∙ e)

-- a key that isn't seen in a list with one more wasn't seen before, and isn't the last
pub unseen_last : (ks : List Key) (k x : Key) → is_seen (ks ++ k ∷ []) x ≡ false → (is_seen ks x ≡ false) × (x ≢ k)
unseen_last [] k x h = (refl, λ same. go (test_itself k x (sym same)))
  where
    go : is_eq (key_cmp k x) ≡ true → ⊥
    go e = differs (sym h ∙ ap (λ b. if b then true else false) e)
unseen_last (y ∷ ys) k x h = go (λ e. unseen_last ys k x e) (is_eq (key_cmp y x)) refl
  where
    go : (is_seen (ys ++ k ∷ []) x ≡ false → (is_seen ys x ≡ false) × (x ≢ k)) → (b : Bool) → is_eq (key_cmp y x) ≡ b → (is_seen (y ∷ ys) x ≡ false) × (x ≢ k)
    go ih true e = absurd (differs (sym h ∙ ap (λ b. if b then true else is_seen (ys ++ k ∷ []) x) e))
    go ih false e =
        let r = ih (sym (ap (λ b. if b then true else is_seen (ys ++ k ∷ []) x) e) ∙ h) in
        (ap (λ b. if b then true else is_seen ys x) e ∙ r.0, r.1)
