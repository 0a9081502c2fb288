-- A number that stops at 2147483648.
use Rattle.std.proofs.Common.{◌≡◌, ℕ, suc, ◌+◌, ◌-◌, ◌*◌, ◌<◌, min, List, [], ◌∷◌, length, get_or, drop, arith, drop-cons, add-one}
use Rattle.mj_lexer.specs.Bytes.{decimal}

stopped : (a b : ℕ) (ds : List ℕ) → min a 2147483648 ≡ min b 2147483648 → min (decimal a ds) 2147483648 ≡ min (decimal b ds) 2147483648
stopped a b [] e = e
stopped a b (d ∷ ds) e = stopped (10 * a + (d - 48)) (10 * b + (d - 48)) ds (omega arith)

pub next_digit : (v w i : ℕ) (ds : List ℕ) → i < length ds → w ≡ min (10 * v + (get_or ds i 0 - 48)) 2147483648 → min (decimal w (drop (i + 1) ds)) 2147483648 ≡ min (decimal v (drop i ds)) 2147483648
next_digit v w i ds lt e =
    let one : min (decimal w (drop (suc i) ds)) 2147483648 ≡ min (decimal (10 * v + (get_or ds i 0 - 48)) (drop (suc i) ds)) 2147483648 = stopped w (10 * v + (get_or ds i 0 - 48)) (drop (suc i) ds) (omega arith) in
    rw (add-one, drop-cons ds i 0) one
