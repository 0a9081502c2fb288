-- Elements of lists by their places.
use Rattle.std.proofs.Common.{◌≡◌, ℕ, zero, suc, ◌<◌, List, [], ◌∷◌, map, take, slice_get, Option, Some, None, option_map, Contains, refl, sym, ap, ◌∙◌, arith}
use Rattle.std.proofs.lemmas.Option.{none-some, same_Some, slice_get-map, slice_get_within, slice_get-get_or, get_or_from_slice_get}

pub contains_at : {X : Type 0} (xs : List X) (i : ℕ) (x : X) → slice_get xs i ≡ Some x → Contains xs x
contains_at xs i x e = (i, slice_get_within xs i x e, get_or_from_slice_get xs i x x e)

pub place_of : {X : Type 0} (xs : List X) (x : X) → Contains xs x → (i : ℕ) × (slice_get xs i ≡ Some x)
place_of xs x h = (h.0, slice_get-get_or xs h.0 x h.1 ∙ ap Some h.2)

pub slice_get-take : {X : Type 0} (n i : ℕ) (xs : List X) → i < n → slice_get (take n xs) i ≡ slice_get xs i
slice_get-take zero i xs h = absurd (omega arith)
slice_get-take (suc n) i [] h = refl
slice_get-take (suc n) zero (x ∷ xs) h = refl
slice_get-take (suc n) (suc i) (x ∷ xs) h = slice_get-take n i xs (omega arith)

pub below_take : {X : Type 0} (n i : ℕ) (xs : List X) (x : X) → slice_get (take n xs) i ≡ Some x → i < n
below_take zero i xs x e = absurd (none-some x e)
below_take (suc n) i [] x e = absurd (none-some x e)
below_take (suc n) zero (y ∷ xs) x e = omega arith
below_take (suc n) (suc i) (y ∷ xs) x e = let below = below_take n i xs x e in omega arith

-- what stands before a place, and where it stands
pub place_before : {X : Type 0} (n : ℕ) (xs : List X) (x : X) → Contains (take n xs) x → (i : ℕ) × (i < n) × (slice_get xs i ≡ Some x)
place_before n xs x h =
    let p = place_of (take n xs) x h in
    let below = below_take n p.0 xs x p.1 in
    (p.0, below, sym (slice_get-take n p.0 xs below) ∙ p.1)

pub contains_before : {X : Type 0} (n i : ℕ) (xs : List X) (x : X) → i < n → slice_get xs i ≡ Some x → Contains (take n xs) x
contains_before n i xs x h e = contains_at (take n xs) i x (slice_get-take n i xs h ∙ e)

-- what a mapped option holds comes from what the option holds
pub from_map : {A B : Type 0} (f : A → B) (o : Option A) (y : B) → option_map f o ≡ Some y → (x : A) × (o ≡ Some x) × (f x ≡ y)
from_map f None y e = absurd (none-some y e)
from_map f (Some x) y e = (x, refl, same_Some (f x) y e)

pub at_map : {A B : Type 0} (f : A → B) (xs : List A) (i : ℕ) (y : B) → slice_get (map f xs) i ≡ Some y → (x : A) × (slice_get xs i ≡ Some x) × (f x ≡ y)
at_map f xs i y e = from_map f (slice_get xs i) y (sym (slice_get-map f xs i) ∙ e)

pub map_at : {A B : Type 0} (f : A → B) (xs : List A) (i : ℕ) (x : A) → slice_get xs i ≡ Some x → slice_get (map f xs) i ≡ Some (f x)
map_at f xs i x e = slice_get-map f xs i ∙ ap (option_map f) e
