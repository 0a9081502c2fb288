-- Lists that are read from the front.
use Rattle.std.proofs.Common.{◌≡◌, ℕ, suc, zero, ◌+◌, ◌<◌, List, [], ◌∷◌, ◌++◌, map, take, length, get_or, slice_get, Some, sym, ap, ◌∙◌, arith}
use Rattle.std.specs.List.{AllByRecursion}
use Rattle.std.proofs.lemmas.List.{take_more, get_or-map, length-map}
use Rattle.std.proofs.lemmas.Option.{slice_get-get_or, slice_get_within, get_or_from_slice_get}

-- what stands at a place, after a map
pub there_map : {X Y : Type 0} (f : X → Y) (xs : List X) (i : ℕ) (x : X) → i < length xs → x ≡ get_or xs i x → slice_get (map f xs) i ≡ Some (f x)
there_map f xs i x lt is =
    let l : i < length (map f xs) = omega (arith, lt, length-map xs f) in
    slice_get-get_or (map f xs) i (f x) l ∙ ap Some (get_or-map f xs i x (f x) lt ∙ ap f (sym is))

-- what stands at a place
pub there : {X : Type 0} (xs : List X) (i : ℕ) (x : X) → i < length xs → x ≡ get_or xs i x → slice_get xs i ≡ Some x
there xs i x lt is = slice_get-get_or xs i x lt ∙ ap Some (sym is)

-- one more of them, by what stands there
pub take_there : {X : Type 0} (xs : List X) (i : ℕ) (x : X) → slice_get xs i ≡ Some x → take (i + 1) xs ≡ take i xs ++ x ∷ []
take_there xs i x is =
    let lt = slice_get_within xs i x is in
    take_more xs i x lt ∙ ap (λ y. take i xs ++ y ∷ []) (get_or_from_slice_get xs i x x is)

pub all_take : {X : Type 0} (P : X → Type 0) (i : ℕ) (xs : List X) → AllByRecursion P xs → AllByRecursion P (take i xs)
all_take P zero xs a = tt
all_take P (suc i) [] a = tt
all_take P (suc i) (x ∷ xs) a = (a.0, all_take P i xs a.1)
