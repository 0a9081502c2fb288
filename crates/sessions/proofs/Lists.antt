-- Lists with one more item at the end.
use Rattle.std.proofs.Common.{◌≢◌, ℕ, List, [], ◌∷◌, ◌++◌, sym}
use Rattle.std.specs.List.{AllByRecursion}
use Rattle.item_ids.specs.KeyLists.{NoneTwice}

pub all_front : {A : Type 0} (P : A → Type 0) (xs : List A) (x : A) → AllByRecursion P (xs ++ x ∷ []) → AllByRecursion P xs
all_front P [] x h = tt
all_front P (y ∷ ys) x h = (h.0, all_front P ys x h.1)

pub all_last : {A : Type 0} (P : A → Type 0) (xs : List A) (x : A) → AllByRecursion P (xs ++ x ∷ []) → P x
all_last P [] x h = h.0
all_last P (y ∷ ys) x h = all_last P ys x h.1

pub distinct_last : (xs : List ℕ) (x : ℕ) → NoneTwice (λ n. n) (xs ++ x ∷ []) → AllByRecursion (λ m. m ≢ x) xs
distinct_last [] x d = tt
distinct_last (y ∷ ys) x d = (λ e. all_last (λ m. m ≢ y) ys x d.0 (sym e), distinct_last ys x d.1)
