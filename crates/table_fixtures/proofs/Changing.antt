-- What a change makes of a list of records, one more at a time.
use Rattle.std.proofs.Common.{◌≡◌, ℕ, suc, ◌+◌, ◌<◌, List, [], ◌∷◌, ◌++◌, length, take, get_or, sym, ◌∙◌, ap, subst, arith}
use Rattle.std.specs.List.{AllZip, enumerate_from}
use Rattle.std.proofs.lemmas.List.{take_more, length-take-le}
use Rattle.std.proofs.lemmas.Slice.Zip.{all_zipped_more}

numbered_more : {X : Type 0} (n : ℕ) (xs : List X) (x : X) → enumerate_from n (xs ++ x ∷ []) ≡ enumerate_from n xs ++ (n + length xs, x) ∷ []
numbered_more n [] x = let e : n ≡ n + 0 = omega arith in ap (λ k. (k, x) ∷ []) e
numbered_more n (y ∷ ys) x =
    let e : n + 1 + length ys ≡ n + suc (length ys) = omega arith in
    ap (λ zs. (n, y) ∷ zs) (numbered_more (n + 1) ys x ∙ ap (λ k. enumerate_from (n + 1) ys ++ (k, x) ∷ []) e)

numbered_front : {X : Type 0} (xs : List X) (i : ℕ) (d : X) → i < length xs
    → enumerate_from 0 (take (i + 1) xs) ≡ enumerate_from 0 (take i xs) ++ (i, get_or xs i d) ∷ []
numbered_front xs i d l =
    let long : length (take i xs) ≡ i = length-take-le i xs (omega (arith, l)) in
    let e : 0 + length (take i xs) ≡ i = omega (arith, long) in
    ap (λ zs. enumerate_from 0 zs) (take_more xs i d l) ∙ numbered_more 0 (take i xs) (get_or xs i d)
    ∙ ap (λ k. enumerate_from 0 (take i xs) ++ (k, get_or xs i d) ∷ []) e

-- the next of both are related too, by their place
pub numbered_zip_more : {X Y : Type 0} (R : ℕ × X → Y → Type 0) (xs : List X) (ys : List Y) (i : ℕ) (d : X) (y : Y) → i < length xs
    → AllZip R (enumerate_from 0 (take i xs)) ys → R (i, get_or xs i d) y → AllZip R (enumerate_from 0 (take (i + 1) xs)) (ys ++ y ∷ [])
numbered_zip_more R xs ys i d y l all one =
    subst (λ zs. AllZip R zs (ys ++ y ∷ [])) (sym (numbered_front xs i d l))
    (all_zipped_more R (enumerate_from 0 (take i xs)) ys (i, get_or xs i d) y all one)
