-- Whether a list has an element that passes, by the place of the first.
use Rattle.std.proofs.Common.{◌≡◌, ℕ, suc, ◌+◌, Bool, true, false, not, cond, ◌||◌, List, [], ◌∷◌, length, Some, None, refl, ap, ◌∙◌, arith}
use Rattle.std.specs.Prelude.{position, is_some, nat_lt}
use Rattle.std.specs.List.{list_any, position_or_len}
use Rattle.std.proofs.lemmas.Bool.Decides.{nat_tests}

same_test : (n m : ℕ) → nat_lt (1 + n) (suc m) ≡ nat_lt n m
same_test n m = grind (arith, nat_tests)

zero_before : (m : ℕ) → nat_lt 0 (suc m) ≡ true
zero_before m = grind (arith, nat_tests)

some_when : (b : Bool) (n : ℕ) → b ≡ true → is_some (cond b (Some n) None) ≡ true
some_when true n e = refl
some_when false n e = e

some_of : (b : Bool) (n m : ℕ) → is_some (cond b (Some n) None) ≡ is_some (cond b (Some m) None)
some_of true n m = refl
some_of false n m = refl

first_or_later : (b : Bool) (n m : ℕ) → is_some (cond (nat_lt (cond (not b) (1 + n) 0) (suc m)) (Some (cond (not b) (1 + n) 0)) None) ≡ (b || is_some (cond (nat_lt n m) (Some n) None))
first_or_later true n m = some_when (nat_lt 0 (suc m)) 0 (zero_before m)
first_or_later false n m = ap (λ b. is_some (cond b (Some (1 + n)) None)) (same_test n m) ∙ some_of (nat_lt n m) (1 + n) n

pub place_any : {X : Type 0} (p : X → Bool) (xs : List X) → is_some (position p xs) ≡ list_any p xs
place_any p [] = refl
place_any p (x ∷ xs) = first_or_later (p x) (position_or_len p xs) (length xs) ∙ ap (λ b. p x || b) (place_any p xs)
