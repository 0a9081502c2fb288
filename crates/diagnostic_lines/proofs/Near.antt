-- Of what stands from a place on, no more than 201 bytes decide what is shown.
use Rattle.std.proofs.Common.{◌≡◌, ◌∙◌, ℕ, zero, suc, ◌+◌, ◌≤◌, Bool, true, false, cond, List, [], ◌∷◌, ◌++◌, length, take, map, min, refl, sym, ap, arith}
use Rattle.std.specs.Prelude.{nat_le, nat_lt, if◌then◌else◌}
use Rattle.std.specs.List.{take_while}
use Rattle.std.proofs.lemmas.List.{take-take, length-take}
use Rattle.std.proofs.lemmas.List.Sums.{take_while-cons}
use Rattle.std.proofs.lemmas.Bool.Decides.{nat_tests}
use Rattle.diagnostic_lines.specs.Excerpts.{room, shown, cut_mark, left_part, right_part, marked, marked_sides}

-- the front of what passes is what passes of the front
pub near_while : {X : Type 0} (p : X → Bool) (n : ℕ) (xs : List X) → take_while p (take n xs) ≡ take n (take_while p xs)
near_while p zero xs = refl
near_while p (suc n) [] = refl
near_while {X} p (suc n) (x ∷ xs) =
    take_while-cons p x (take n xs) ∙ (by (p x) (near_while p n xs) ∙ sym (ap (take (suc n)) (take_while-cons p x xs)))
  where
    by : (b : Bool) → take_while p (take n xs) ≡ take n (take_while p xs) → cond b (x ∷ take_while p (take n xs)) [] ≡ take (suc n) (cond b (x ∷ take_while p xs) [])
    by true e = ap (λ (ys : List X). x ∷ ys) e
    by false e = refl

near_room : (a b : ℕ) → nat_le (a + min 201 b) 200 ≡ nat_le (a + b) 200
near_room a b = grind (arith, nat_tests)

near_cut : (n b : ℕ) → n ≤ 200 → nat_lt n (min 201 b) ≡ nat_lt n b
near_cut n b le = grind (arith, nat_tests)

pub room_within : (front rest : List ℕ) → room front rest ≤ 200
room_within front rest = by (nat_le (length front + length rest) 200)
  where
    by : (b : Bool) → (if b then 200 else 100) ≤ 200
    by true = omega arith
    by false = omega arith

same_room : (front rest : List ℕ) → room front (take 201 rest) ≡ room front rest
same_room front rest =
    ap (λ (b : Bool). if b then 200 else 100) (ap (λ (n : ℕ). nat_le (length front + n) 200) (length-take 201 rest) ∙ near_room (length front) (length rest))

same_right : (n : ℕ) (rest : List ℕ) → n ≤ 200 → right_part n (take 201 rest) ≡ right_part n rest
same_right n rest le =
    let cut : nat_lt n (length (take 201 rest)) ≡ nat_lt n (length rest) = ap (nat_lt n) (length-take 201 rest) ∙ near_cut n (length rest) le in
    let kept : take n (take 201 rest) ≡ take n rest = take-take n 201 rest (omega arith) in
    ap (λ (ys : List ℕ). map shown ys ++ cut_mark (nat_lt n (length (take 201 rest)))) kept ∙ ap (λ (b : Bool). map shown (take n rest) ++ cut_mark b) cut

pub near_sides : (front rest : List ℕ) → marked_sides front (take 201 rest) ≡ marked_sides front rest
near_sides front rest =
    ap (λ (n : ℕ). marked (left_part n front) (right_part n (take 201 rest))) (same_room front rest)
    ∙ ap (λ (right : List ℕ). marked (left_part (room front rest) front) right) (same_right (room front rest) rest (room_within front rest))
