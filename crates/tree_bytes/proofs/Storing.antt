-- Methods and classes one after the other, while they are stored.
use Rattle.std.proofs.Common.{◌≡◌, ℕ, zero, suc, ◌<◌, List, [], ◌∷◌, length, get_or, map, subst, sym, ap, arith}
use Rattle.std.specs.List.{AllByRecursion}

-- what all keep is kept by the one at a place
pub kept_at : {X Y : Type 0} (P : Y → Type 0) (view : X → Y) (xs : List X) (i : ℕ) (x : X) → i < length xs → x ≡ get_or xs i x → AllByRecursion P (map view xs) → P (view x)
kept_at P view [] i x lt is all = absurd (omega (arith, lt))
kept_at P view (y ∷ ys) zero x lt is all = subst P (ap view (sym is)) all.0
kept_at P view (y ∷ ys) (suc i) x lt is all = kept_at P view ys i x (omega (arith, lt)) is all.1
