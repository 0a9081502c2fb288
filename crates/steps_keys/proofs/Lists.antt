-- What holds of all items of a list, and lists of which no two items have the same key.
use Rattle.std.proofs.Common.{◌≢◌, suc, ◌<◌, List, [], ◌∷◌, ◌++◌, length, refl, sym, arith}
use Rattle.std.specs.Prelude.{Contains}
use Rattle.std.specs.List.{AllByRecursion}
use Rattle.steps_keys.specs.KeyLists.{NoneTwice}

-- one more item at the end
pub all_push : {A : Type 0} (P : A → Type 0) (xs : List A) (x : A) → AllByRecursion P xs → P x → AllByRecursion P (xs ++ x ∷ [])
all_push P [] x h p = (p, tt)
all_push P (y ∷ ys) x h p = (h.0, all_push P ys x h.1 p)

pub all_map : {A : Type 0} (P Q : A → Type 0) → ((x : A) → P x → Q x) → (xs : List A) → AllByRecursion P xs → AllByRecursion Q xs
all_map P Q f [] h = tt
all_map P Q f (x ∷ xs) h = (f x h.0, all_map P Q f xs h.1)

-- one more item, of another key
pub once_push : {A K : Type 0} (key : A → K) (xs : List A) (x : A) → NoneTwice key xs → AllByRecursion (λ y. key y ≢ key x) xs → NoneTwice key (xs ++ x ∷ [])
once_push key [] x d u = (tt, tt)
once_push key (y ∷ ys) x d u = (all_push (λ z. key z ≢ key y) ys x d.0 (λ e. u.0 (sym e)), once_push key ys x d.1 u.1)

-- what holds of each item holds of all
pub all_from : {A : Type 0} (P : A → Type 0) (xs : List A) → ((x : A) → Contains xs x → P x) → AllByRecursion P xs
all_from P [] h = tt
all_from P (x ∷ xs) h =
    let l : 0 < length (x ∷ xs) = omega arith in
    (h x (0, l, refl), all_from P xs (λ e has. let l : suc has.0 < length (x ∷ xs) = let b = has.1 in omega arith in h e (suc has.0, l, has.2)))
