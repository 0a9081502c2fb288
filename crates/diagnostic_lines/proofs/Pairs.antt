-- Two lists whose elements belong together grow together.
use Rattle.std.proofs.Common.{◌≡◌, ◌∙◌, ℕ, ◌+◌, ◌<◌, ◌≤◌, List, [], ◌∷◌, ◌++◌, length, take, map, flat_map, get_or, sym, ap, subst}
use Rattle.std.proofs.lemmas.List.{take_more, take_all, map-append, append_assoc, append-nil}
use Rattle.diagnostic_lines.specs.Pairs.{Pairwise}

pub pairs_push : {A B : Type 0} (R : A → B → Type 0) (xs : List A) (ys : List B) (x : A) (y : B) → Pairwise R xs ys → R x y → Pairwise R (xs ++ x ∷ []) (ys ++ y ∷ [])
pairs_push R [] [] x y h r = (r, tt)
pairs_push R [] (z ∷ ys) x y h r = absurd h
pairs_push R (w ∷ xs) [] x y h r = absurd h
pairs_push R (w ∷ xs) (z ∷ ys) x y h r = (h.0, pairs_push R xs ys x y h.1 r)

-- one more of the elements that are taken from a list
pub pairs_more : {A B C : Type 0} (R : A → B → Type 0) (f : C → A) (before : List A) (xs : List C) (i : ℕ) (x : C) (ys : List B) (y : B) → i < length xs → x ≡ get_or xs i x
    → Pairwise R (before ++ map f (take i xs)) ys → R (f x) y → Pairwise R (before ++ map f (take (i + 1) xs)) (ys ++ y ∷ [])
pairs_more {A} {B} {C} R f before xs i x ys y lt is h r =
    let taken : map f (take (i + 1) xs) ≡ map f (take i xs) ++ f x ∷ [] =
    ap (map f) (take_more xs i x lt ∙ ap (λ (z : C). take i xs ++ z ∷ []) (sym is)) ∙ map-append f (take i xs) (x ∷ []) in
    let all : (before ++ map f (take i xs)) ++ f x ∷ [] ≡ before ++ map f (take (i + 1) xs) = append_assoc before (map f (take i xs)) (f x ∷ []) ∙ ap (λ (zs : List A). before ++ zs) (sym taken) in
    subst (λ (zs : List A). Pairwise R zs (ys ++ y ∷ [])) all (pairs_push R (before ++ map f (take i xs)) ys (f x) y h r)

-- all of them
pub pairs_all : {A B C : Type 0} (R : A → B → Type 0) (f : C → A) (before : List A) (xs : List C) (i : ℕ) (ys : List B) → length xs ≤ i
    → Pairwise R (before ++ map f (take i xs)) ys → Pairwise R (before ++ map f xs) ys
pairs_all {A} {B} {C} R f before xs i ys past h = subst (λ (zs : List C). Pairwise R (before ++ map f zs) ys) (take_all i xs past) h

-- the elements that one more of a list gives
pub pairs_group : {A B C : Type 0} (R : A → B → Type 0) (g : C → List A) (before : List A) (xs : List C) (i : ℕ) (x : C) (ys : List B) → i < length xs → x ≡ get_or xs i x
    → Pairwise R ((before ++ flat_map g (take i xs)) ++ g x) ys → Pairwise R (before ++ flat_map g (take (i + 1) xs)) ys
pairs_group {A} {B} {C} R g before xs i x ys lt is h =
    let taken : take (i + 1) xs ≡ take i xs ++ x ∷ [] = take_more xs i x lt ∙ ap (λ (z : C). take i xs ++ z ∷ []) (sym is) in
    let groups : flat_map g (take (i + 1) xs) ≡ flat_map g (take i xs) ++ g x = ap (flat_map g) taken ∙ last_group (take i xs) in
    subst (λ (zs : List A). Pairwise R zs ys) (append_assoc before (flat_map g (take i xs)) (g x) ∙ ap (λ (zs : List A). before ++ zs) (sym groups)) h
  where
    last_group : (zs : List C) → flat_map g (zs ++ x ∷ []) ≡ flat_map g zs ++ g x
    last_group [] = append-nil (g x)
    last_group (z ∷ zs) = ap (λ (ws : List A). g z ++ ws) (last_group zs) ∙ sym (append_assoc (g z) (flat_map g zs) (g x))

pub pairs_groups : {A B C : Type 0} (R : A → B → Type 0) (g : C → List A) (before : List A) (xs : List C) (i : ℕ) (ys : List B) → length xs ≤ i
    → Pairwise R (before ++ flat_map g (take i xs)) ys → Pairwise R (before ++ flat_map g xs) ys
pairs_groups {A} {B} {C} R g before xs i ys past h = subst (λ (zs : List C). Pairwise R (before ++ flat_map g zs) ys) (take_all i xs past) h
