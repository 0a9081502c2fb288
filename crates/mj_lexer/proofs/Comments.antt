-- How a comment is read on.
use Rattle.std.proofs.Common.{◌≡◌, ℕ, zero, suc, ◌+◌, ◌-◌, ◌<◌, ◌≤◌, true, false, List, [], ◌∷◌, length, get_or, drop, None, refl, arith, add-one, sub-one, add-zero}
use Rattle.std.proofs.lemmas.List.{length-drop, get_or-drop, drop-drop}
use Rattle.mj_lexer.specs.Bytes.{opens, closes}
use Rattle.mj_lexer.specs.Fronts.{after_comment}

list_end : (d : ℕ) (t : List ℕ) → 0 < d → length t < 2 → after_comment d t ≡ None
list_end zero t pos short = absurd (omega arith)
list_end (suc d) [] pos short = refl
list_end (suc d) (b ∷ []) pos short = refl
list_end (suc d) (b ∷ c ∷ t) pos short = absurd (omega arith)

list_opens : (d : ℕ) (t : List ℕ) → 0 < d → 2 ≤ length t → opens (get_or t 0 0) (get_or t 1 0) ≡ true → after_comment (d + 1) (drop 2 t) ≡ after_comment d t
list_opens zero t pos long e = absurd (omega arith)
list_opens (suc d) [] pos long e = absurd (omega arith)
list_opens (suc d) (b ∷ []) pos long e = absurd (omega arith)
list_opens (suc d) (b ∷ c ∷ t) pos long e = rw (add-one, e) refl

list_closes : (d : ℕ) (t : List ℕ) → 0 < d → 2 ≤ length t → opens (get_or t 0 0) (get_or t 1 0) ≡ false → closes (get_or t 0 0) (get_or t 1 0) ≡ true → after_comment (d - 1) (drop 2 t) ≡ after_comment d t
list_closes zero t pos long n e = absurd (omega arith)
list_closes (suc d) [] pos long n e = absurd (omega arith)
list_closes (suc d) (b ∷ []) pos long n e = absurd (omega arith)
list_closes (suc d) (b ∷ c ∷ t) pos long n e = rw (n, e, sub-one) refl

list_same : (d : ℕ) (t : List ℕ) → 0 < d → 2 ≤ length t → opens (get_or t 0 0) (get_or t 1 0) ≡ false → closes (get_or t 0 0) (get_or t 1 0) ≡ false → after_comment d (drop 1 t) ≡ after_comment d t
list_same zero t pos long n e = absurd (omega arith)
list_same (suc d) [] pos long n e = absurd (omega arith)
list_same (suc d) (b ∷ []) pos long n e = absurd (omega arith)
list_same (suc d) (b ∷ c ∷ t) pos long n e = rw (n, e) refl

-- the same at a place i
module _ (d i : ℕ) (t : List ℕ) (pos : 0 < d) where
  pub at_end : length t - i < 2 → after_comment d (drop i t) ≡ None
  at_end short = list_end d (drop i t) pos (omega (arith, length-drop i t))

  first : get_or (drop i t) 0 0 ≡ get_or t i 0
  first = rw (get_or-drop, add-zero) refl

  pub at_opens : 2 ≤ length t - i → opens (get_or t i 0) (get_or t (i + 1) 0) ≡ true → after_comment (d + 1) (drop (i + 2) t) ≡ after_comment d (drop i t)
  at_opens long e = rw (← drop-drop 2 i t) (list_opens d (drop i t) pos (omega (arith, length-drop i t)) (rw (first, get_or-drop) e))

  pub at_closes : 2 ≤ length t - i → opens (get_or t i 0) (get_or t (i + 1) 0) ≡ false → closes (get_or t i 0) (get_or t (i + 1) 0) ≡ true → after_comment (d - 1) (drop (i + 2) t) ≡ after_comment d (drop i t)
  at_closes long n e = rw (← drop-drop 2 i t) (list_closes d (drop i t) pos (omega (arith, length-drop i t)) (rw (first, get_or-drop) n) (rw (first, get_or-drop) e))

  pub at_same : 2 ≤ length t - i → opens (get_or t i 0) (get_or t (i + 1) 0) ≡ false → closes (get_or t i 0) (get_or t (i + 1) 0) ≡ false → after_comment d (drop (i + 1) t) ≡ after_comment d (drop i t)
  at_same long n e = rw (← drop-drop 1 i t) (list_same d (drop i t) pos (omega (arith, length-drop i t)) (rw (first, get_or-drop) n) (rw (first, get_or-drop) e))
