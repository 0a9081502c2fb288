-- Lists by places.
use Rattle.std.proofs.Common.{◌≡◌, inl, inr, ℕ, zero, suc, ◌+◌, ◌<◌, ◌≤◌, List, [], ◌∷◌, ◌++◌, map, take, get_or, slice_get, Some, refl, sym, ap, subst, ◌∙◌, length, arith}
use Rattle.std.proofs.lemmas.Bool.{cases_lt}
use Rattle.std.proofs.lemmas.List.{take_more, map-append, get_or-map, length-map}
use Rattle.std.proofs.lemmas.Option.{same_Some, slice_get-get_or, slice_get_within}
use Rattle.redgreen_rules.specs.Runs.{IsIn}

pub in_map_at : {A : Type 0} (f : ℕ → A) (xs : List ℕ) (i d : ℕ) → i < length xs → IsIn (map f xs) (f (get_or xs i d))
in_map_at f [] i d l = absurd (omega (arith, l))
in_map_at f (x ∷ xs) zero d l = inl refl
in_map_at f (x ∷ xs) (suc i) d l = inr (in_map_at f xs i d (omega (arith, l)))

pub in_map_get : {A B : Type 0} (f : A → B) (xs : List A) (i : ℕ) (x : A) → slice_get xs i ≡ Some x → IsIn (map f xs) (f x)
in_map_get f [] i x e = absurd cc
in_map_get f (y ∷ xs) zero x e = inl (ap f (same_Some y x e))
in_map_get f (y ∷ xs) (suc i) x e = inr (in_map_get f xs i x e)

pub same_more : {A : Type 0} (f g : ℕ → A) (old es : List ℕ) (i : ℕ) → i < length old → i < length es → map f (take i old) ≡ map g (take i es) → f (get_or old i 0) ≡ g (get_or es i 0) → map f (take (i + 1) old) ≡ map g (take (i + 1) es)
same_more {A} f g old es i l m so_far same =
    ap (map f) (take_more old i 0 l) ∙ (map-append f (take i old) (get_or old i 0 ∷ [])
    ∙ (ap (λ (ks : List A). ks ++ f (get_or old i 0) ∷ []) so_far ∙ (ap (λ (k : A). map g (take i es) ++ k ∷ []) same
    ∙ (sym (map-append g (take i es) (get_or es i 0 ∷ [])) ∙ ap (map g) (sym (take_more es i 0 m))))))

-- one more at the end of a list that was mapped so far
pub map_more : {A B : Type 0} (f : A → B) (xs : List A) (n : ℕ) (x : A) → n < length xs → x ≡ get_or xs n x → map f (take (n + 1) xs) ≡ map f (take n xs) ++ f x ∷ []
map_more {A} {B} f xs n x l e = ap (map f) (take_more xs n x l) ∙ (map-append f (take n xs) (get_or xs n x ∷ []) ∙ ap (λ (y : A). map f (take n xs) ++ f y ∷ []) (sym e))

-- what holds at each place so far, and at the next one
pub each_more : {A : Type 0} (P : ℕ → A → Type 0) (xs : List A) (n : ℕ) (x : A) → n < length xs → x ≡ get_or xs n x
    → ((i : ℕ) (r : A) → i < n → slice_get xs i ≡ Some r → P i r) → P n x
    → (i : ℕ) (r : A) → i < n + 1 → slice_get xs i ≡ Some r → P i r
each_more {A} P xs n x l e before here i r lt at = elim (cases_lt i n) [
  | inl less ↦ before i r less at
  | inr le ↦
      let same : n ≡ i = omega (arith, le, lt) in
      let found : slice_get xs n ≡ Some x = slice_get-get_or xs n x l ∙ ap Some (sym e) in
      let is : x ≡ r = same_Some x r (sym found ∙ (ap (slice_get xs) same ∙ at)) in
      subst (λ (j : ℕ). P j r) same (subst (λ (y : A). P n y) is here)
]

pub each_all : {A : Type 0} (P : ℕ → A → Type 0) (xs : List A) (n : ℕ) → length xs ≤ n
    → ((i : ℕ) (r : A) → i < n → slice_get xs i ≡ Some r → P i r)
    → (i : ℕ) (r : A) → slice_get xs i ≡ Some r → P i r
each_all P xs n l before i r at = before i r (omega (arith, l, slice_get_within xs i r at)) at

pub at_seam : {A : Type 0} (front rest : List A) (x : A) → slice_get (front ++ x ∷ rest) (length front) ≡ Some x
at_seam [] rest x = refl
at_seam (y ∷ front) rest x = at_seam front rest x

pub at_front : {A : Type 0} (front rest : List A) (i : ℕ) → i < length front → slice_get (front ++ rest) i ≡ slice_get front i
at_front [] rest i l = absurd (omega (arith, l))
at_front (x ∷ front) rest zero l = refl
at_front (x ∷ front) rest (suc i) l = at_front front rest i (omega (arith, l))

pub there : {A : Type 0} (xs : List A) (i : ℕ) → i < length xs → (x : A) × (slice_get xs i ≡ Some x)
there [] i l = absurd (omega (arith, l))
there (x ∷ xs) zero l = (x, refl)
there (x ∷ xs) (suc i) l = there xs i (omega (arith, l))

-- what maps to the same list is the same at each place
pub same_there : {A : Type 0} (d : A) (f g : ℕ → A) (old es : List ℕ) (i : ℕ) → i < length old → i < length es → map f old ≡ map g es → f (get_or old i 0) ≡ g (get_or es i 0)
same_there {A} d f g old es i l m all = sym (get_or-map f old i 0 d l) ∙ (ap (λ (ks : List A). get_or ks i d) all ∙ get_or-map g es i 0 d m)

pub same_length : {A : Type 0} (f g : ℕ → A) (old es : List ℕ) → map f old ≡ map g es → length old ≡ length es
same_length f g old es all = sym (length-map old f) ∙ (ap length all ∙ length-map es g)
