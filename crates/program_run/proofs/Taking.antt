-- Files that are taken by their names, one after the other.
use Rattle.std.proofs.Common.{◌≡◌, ◌∷◌, [], ◌++◌, List, ℕ, suc, ◌<◌, Contains, length, map, slice_get, Some, refl, sym, ap, subst, ◌∙◌, arith}
use Rattle.std.proofs.lemmas.List.{append-nil, length-map}

pub one_more : {A : Type 0} (xs : List A) (x : A) → length (xs ++ x ∷ []) ≡ suc (length xs)
one_more [] x = refl
one_more (y ∷ xs) x = ap suc (one_more xs x)

-- one more file for one more name
pub many_more : {A B C : Type 0} (f : A → B) (xs : List C) (ys : List A) (x : C) (y : A) → length xs ≡ length (map f ys) → length (xs ++ x ∷ []) ≡ length (map f (ys ++ y ∷ []))
many_more f xs ys x y same =
    one_more xs x ∙ (ap suc (same ∙ length-map ys f) ∙ (sym (one_more ys y) ∙ sym (length-map (ys ++ y ∷ []) f)))

behind : {A B : Type 0} (f : A → B) (ys : List A) (y : A) (rest : List A) → slice_get (map f (ys ++ y ∷ rest)) (length ys) ≡ Some (f y)
behind f [] y rest = refl
behind f (x ∷ ys) y rest = behind f ys y rest

-- the name behind those whose files were taken
pub named_at : {A B : Type 0} (f : A → B) (ys : List A) (y : A) (rest all : List A) (n : ℕ) → n ≡ length (map f ys) → ys ++ y ∷ rest ≡ all → slice_get (map f all) n ≡ Some (f y)
named_at f ys y rest all n many is =
    subst (λ (l : List _). slice_get (map f l) n ≡ Some (f y)) is (subst (λ (k : ℕ). slice_get (map f (ys ++ y ∷ rest)) k ≡ Some (f y)) (sym (many ∙ length-map ys f)) (behind f ys y rest))

contained : {A B : Type 0} (f : A → B) (ys : List A) (y : A) (rest : List A) → Contains (map f (ys ++ y ∷ rest)) (f y)
contained f [] y rest = (0, omega arith, refl)
contained f (x ∷ ys) y rest =
    let in_rest = contained f ys y rest in
    let here : suc in_rest.0 < length (map f (x ∷ ys ++ y ∷ rest)) = let b = in_rest.1 in omega arith in
    (suc in_rest.0, here, in_rest.2)

-- the name behind those whose files were read is one of them all
pub one_of : {A B : Type 0} (f : A → B) (ys : List A) (y : A) (rest all : List A) → ys ++ y ∷ rest ≡ all → Contains (map f all) (f y)
one_of f ys y rest all is = subst (λ (l : List _). Contains (map f l) (f y)) is (contained f ys y rest)

pub all_of : {A : Type 0} (ys rest all : List A) → rest ≡ [] → ys ++ rest ≡ all → ys ≡ all
all_of ys rest all none is = sym (append-nil ys) ∙ (ap (λ (l : List _). ys ++ l) (sym none) ∙ is)

-- there are as many files as names
pub as_many : {A B C : Type 0} (f : A → C) (g : B → C) (xs : List A) (ys : List B) (m n : ℕ) → m ≡ length xs → n ≡ length ys → map f xs ≡ map g ys → m ≡ n
as_many f g xs ys m n xs_many ys_many same =
    xs_many ∙ (sym (length-map xs f) ∙ (ap (λ (l : List _). length l) same ∙ (length-map ys g ∙ sym ys_many)))
