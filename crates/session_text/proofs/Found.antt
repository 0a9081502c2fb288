-- The first of a list that passes a test, when those in front were looked at.
use Rattle.std.proofs.Common.{◌≡◌, ◌∙◌, ◌<◌, ◌+◌, ℕ, suc, zero, Bool, true, false, List, [], ◌∷◌, Option, Some, None, cond, length, map, take, get_or, ap, sym, refl, arith}
use Rattle.std.proofs.lemmas.Option.{none-some}
use Rattle.std.specs.Prelude.{find}

passed_by : {B : Type 0} (y : B) (rest : Option B) (t : Bool) → cond t (Some y) rest ≡ None → (t ≡ false) × (rest ≡ None)
passed_by y rest true none = absurd (none-some y (sym none))
passed_by y rest false none = (refl, none)

module _ {B : Type 0} (test : B → Bool) (f : ℕ → B) where
  abbrev if_found : Bool → ℕ → List ℕ → Option B
  if_found t y ys = cond t (Some (f y)) (find test (map f ys))

  pub found_at : (xs : List ℕ) (n : ℕ) → n < length xs → find test (map f (take n xs)) ≡ None → test (f (get_or xs n 0)) ≡ true
      → find test (map f xs) ≡ Some (f (get_or xs n 0))
  found_at [] n lt none is = absurd (omega (arith, lt))
  found_at (y ∷ ys) zero lt none is = ap (λ t. if_found t y ys) is
  found_at (y ∷ ys) (suc n) lt none is =
      let parts = passed_by (f y) (find test (map f (take n ys))) (test (f y)) none in
      let inner : n < length ys = omega (arith, lt) in
      ap (λ t. if_found t y ys) parts.0 ∙ found_at ys n inner parts.1 is

  none_behind : (xs : List ℕ) (n : ℕ) → n < length xs → find test (map f (take n xs)) ≡ None → test (f (get_or xs n 0)) ≡ false
      → find test (map f (take (suc n) xs)) ≡ None
  none_behind [] n lt none is = absurd (omega (arith, lt))
  none_behind (y ∷ ys) zero lt none is = ap (λ t. if_found t y []) is
  none_behind (y ∷ ys) (suc n) lt none is =
      let parts = passed_by (f y) (find test (map f (take n ys))) (test (f y)) none in
      let inner : n < length ys = omega (arith, lt) in
      ap (λ t. if_found t y (take (suc n) ys)) parts.0 ∙ none_behind ys n inner parts.1 is

  pub none_next : (xs : List ℕ) (n : ℕ) → n < length xs → find test (map f (take n xs)) ≡ None → test (f (get_or xs n 0)) ≡ false
      → find test (map f (take (n + 1) xs)) ≡ None
  none_next xs n lt none is =
      let next : n + 1 ≡ suc n = omega arith in
      ap (λ k. find test (map f (take k xs))) next ∙ none_behind xs n lt none is
