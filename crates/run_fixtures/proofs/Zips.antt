-- Two lists side by side.
use Rattle.std.proofs.Common.{◌≡◌, ◌↔◌, ℕ, suc, zero, ◌+◌, ◌<◌, List, [], ◌∷◌, false, IsTrue, length, take, get_or, sym, subst, arith}
use Rattle.std.specs.List.{AllZip}
use Rattle.std.proofs.lemmas.List.{take_more}
use Rattle.std.proofs.lemmas.Slice.Zip.{all_zipped_more}

-- the answer to what isn't so
pub says_no : (P : Type 0) → (P → ⊥) → IsTrue false ↔ P
says_no P never = (λ f. cc, λ p. absurd (never p))

-- the next of both are related too
pub zip_more : {A B : Type 0} (R : A → B → Type 0) (xs : List A) (ys : List B) (i : ℕ) (d : A) (y : B) → i < length xs → i < length ys
    → y ≡ get_or ys i y → AllZip R (take i xs) (take i ys) → R (get_or xs i d) y → AllZip R (take (i + 1) xs) (take (i + 1) ys)
zip_more R xs ys i d y l m f all one =
    rw (take_more xs i d l, take_more ys i y m, ← f) (all_zipped_more R (take i xs) (take i ys) (get_or xs i d) y all one)

-- if all are related, those at a place are
pub zip_at : {A B : Type 0} (R : A → B → Type 0) (xs : List A) (ys : List B) (i : ℕ) (d : A) (y : B) → AllZip R xs ys → i < length xs
    → y ≡ get_or ys i y → R (get_or xs i d) y
zip_at R [] [] i d y all l f = absurd (omega (arith, l))
zip_at R [] (b ∷ ys) i d y all l f = absurd all
zip_at R (a ∷ xs) [] i d y all l f = absurd all
zip_at R (a ∷ xs) (b ∷ ys) zero d y all l f = subst (R a) (sym f) all.0
zip_at R (a ∷ xs) (b ∷ ys) (suc i) d y all l f = zip_at R xs ys i d y all.1 (omega arith) f
