-- The first spot of a name.
use Rattle.std.proofs.Common.{◌≡◌, ◌≢◌, ◌⊎◌, inl, inr, ℕ, zero, suc, ◌<◌, Bool, true, false, cond, List, [], ◌∷◌, ◌++◌, map, find, Option, Some, None, option_map, slice_get, refl, sym, ap, ◌∙◌, subst, arith}
use Rattle.std.specs.List.{AllByRecursion, filter}
use Rattle.std.specs.Str.{bytes_eq}
use Rattle.std.proofs.lemmas.Option.{same_Some}
use Rattle.std.proofs.lemmas.Slice.Eq.{bytes_eq-Decides}
use Rattle.mj_tree.specs.Trees.{Name, Main, Class, File}
use Rattle.ordered_names.specs.Order.{IsAscendingBy}
use Rattle.mj_members.specs.Declarations.{ClassDecl, class_decl, main_decl}
use Rattle.mj_classes.specs.Declarations.{number_classes, main_first, classes_of, declared_from, decl}
use Rattle.mj_rules.specs.Sentences.{classes_in, trees_of}
use Rattle.query_rules.specs.Items.{name_of, file_of_class}
use Rattle.recorder.specs.Projects.{Project}
use Rattle.text_queries.proofs.Indexes.{index_tells}
use Rattle.declaration_laws.specs.Spots.{Spot, spot_of, first_spot}
use Rattle.declaration_laws.specs.Laws.{IndexLaw, IsRepeated, RepeatLaw}

-- ---- the index

first_of : (b : Bool) (k : ClassDecl) (rest : List ClassDecl) → slice_get (map spot_of (cond b (k ∷ rest) rest)) 0 ≡ cond b (Some (spot_of k)) (slice_get (map spot_of rest) 0)
first_of true k rest = refl
first_of false k rest = refl

found_if : (b : Bool) (k : ClassDecl) (o : Option ClassDecl) (s : Option Spot) → s ≡ option_map spot_of o → cond b (Some (spot_of k)) s ≡ option_map spot_of (cond b (Some k) o)
found_if true k o s e = refl
found_if false k o s e = e

-- the first spot is that of the first class
first_found : (ks : List ClassDecl) (c : Name) → first_spot ks c ≡ option_map spot_of (find (λ (k : ClassDecl). bytes_eq k.name c) ks)
first_found [] c = refl
first_found (k ∷ ks) c =
    first_of (bytes_eq k.name c) k (filter (λ (j : ClassDecl). bytes_eq j.name c) ks)
    ∙ found_if (bytes_eq k.name c) k (find (λ (j : ClassDecl). bytes_eq j.name c) ks) (first_spot ks c) (first_found ks c)

file_told : (p : Project) (o : Option ClassDecl) → option_map (file_of_class p) o ≡ option_map (λ (s : Spot). name_of (slice_get p s.file)) (option_map spot_of o)
file_told p None = refl
file_told p (Some k) = refl

pub index_law : IndexLaw
unfolding decl
index_law profile p c =
    index_tells profile p c ∙ file_told p (decl (classes_in p) c)
    ∙ ap (option_map (λ (s : Spot). name_of (slice_get p s.file))) (sym (first_found (classes_in p) c))

-- ---- spots ascend

abbrev Before : ClassDecl → ClassDecl → Type 0
Before a b = (a.file < b.file) ⊎ ((a.file ≡ b.file) × (a.number < b.number))

abbrev StandsAt : ℕ → ℕ → ClassDecl → Type 0
StandsAt file n k = (k.file ≡ file) × (n < suc k.number)

numbered_at : (file n m : ℕ) (cs : List Class) → m < suc n → AllByRecursion (StandsAt file m) (number_classes file n cs)
numbered_at file n m [] lt = tt
numbered_at file n m (c ∷ cs) lt = ((refl, lt), numbered_at file (suc n) m cs (omega (arith, lt)))

after_one : (file n : ℕ) (k : ClassDecl) → k.file ≡ file → k.number ≡ n → (ks : List ClassDecl) → AllByRecursion (StandsAt file (suc n)) ks → AllByRecursion (Before k) ks
after_one file n k f e [] h = tt
after_one file n k f e (x ∷ xs) h = (inr (f ∙ sym h.0.0, (let l = h.0.1 in omega (arith, l, e))), after_one file n k f e xs h.1)

numbered_ascend : (file n : ℕ) (cs : List Class) → IsAscendingBy Before (number_classes file n cs)
numbered_ascend file n [] = tt
numbered_ascend file n (c ∷ cs) = (
  after_one file n (class_decl file n c) refl refl (number_classes file (suc n) cs) (numbered_at file (suc n) (suc n) cs (omega arith)),
  numbered_ascend file (suc n) cs,
)

first_ascend : (file : ℕ) (o : Option Main) (cs : List Class) → IsAscendingBy Before (main_first file o cs)
first_ascend file None cs = numbered_ascend file 0 cs
first_ascend file (Some m) cs = (after_one file 0 (main_decl file m) refl refl (number_classes file 1 cs) (numbered_at file 1 1 cs (omega arith)), numbered_ascend file 1 cs)

abbrev IsOf : ℕ → ClassDecl → Type 0
IsOf file k = k.file ≡ file

numbered_of : (file n : ℕ) (cs : List Class) → AllByRecursion (IsOf file) (number_classes file n cs)
numbered_of file n [] = tt
numbered_of file n (c ∷ cs) = (refl, numbered_of file (suc n) cs)

first_are_of : (file : ℕ) (o : Option Main) (cs : List Class) → AllByRecursion (IsOf file) (main_first file o cs)
first_are_of file None cs = numbered_of file 0 cs
first_are_of file (Some m) cs = (refl, numbered_of file 1 cs)

all_both : (P : ClassDecl → Type 0) (xs ys : List ClassDecl) → AllByRecursion P xs → AllByRecursion P ys → AllByRecursion P (xs ++ ys)
all_both P [] ys h g = g
all_both P (x ∷ xs) ys h g = (h.0, all_both P xs ys h.1 g)

weaker : (P Q : ClassDecl → Type 0) → ((k : ClassDecl) → P k → Q k) → (xs : List ClassDecl) → AllByRecursion P xs → AllByRecursion Q xs
weaker P Q h [] g = tt
weaker P Q h (x ∷ xs) g = (h x g.0, weaker P Q h xs g.1)

abbrev IsPast : ℕ → ClassDecl → Type 0
IsPast file k = file < k.file

from_past : (file : ℕ) (fs : List (Option File)) → AllByRecursion (λ (k : ClassDecl). file < suc k.file) (declared_from file fs)
from_past file [] = tt
from_past file (None ∷ fs) = weaker (λ (k : ClassDecl). suc file < suc k.file) (λ (k : ClassDecl). file < suc k.file) (λ k h. omega (arith, h)) (declared_from (suc file) fs) (from_past (suc file) fs)
from_past file (Some f ∷ fs) =
    all_both (λ (k : ClassDecl). file < suc k.file) (classes_of file f) (declared_from (suc file) fs)
    (weaker (IsOf file) (λ (k : ClassDecl). file < suc k.file) (λ k h. omega (arith, h)) (classes_of file f) (first_are_of file f.main f.classes))
    (weaker (λ (k : ClassDecl). suc file < suc k.file) (λ (k : ClassDecl). file < suc k.file) (λ k h. omega (arith, h)) (declared_from (suc file) fs) (from_past (suc file) fs))

ascend_both : (file : ℕ) (xs ys : List ClassDecl) → IsAscendingBy Before xs → IsAscendingBy Before ys → AllByRecursion (IsOf file) xs → AllByRecursion (λ (k : ClassDecl). suc file < suc k.file) ys → IsAscendingBy Before (xs ++ ys)
ascend_both file [] ys a b h g = b
ascend_both file (x ∷ xs) ys a b h g = (
  all_both (Before x) xs ys a.0 (weaker (λ (k : ClassDecl). suc file < suc k.file) (Before x) (λ k l. inl (let e = h.0 in omega (arith, l, e))) ys g),
  ascend_both file xs ys a.1 b h.1 g,
)

declared_ascend : (file : ℕ) (fs : List (Option File)) → IsAscendingBy Before (declared_from file fs)
declared_ascend file [] = tt
declared_ascend file (None ∷ fs) = declared_ascend (suc file) fs
declared_ascend file (Some f ∷ fs) =
    ascend_both file (classes_of file f) (declared_from (suc file) fs) (first_ascend file f.main f.classes) (declared_ascend (suc file) fs) (first_are_of file f.main f.classes) (from_past (suc file) fs)

-- ---- repeated names

other_spot : (a b : ClassDecl) → Before a b → Some (spot_of a) ≢ Some (spot_of b)
other_spot a b (inl l) e = let same = same_Some (spot_of a) (spot_of b) e in let f : a.file ≡ b.file = ap (λ (s : Spot). s.file) same in absurd (omega (arith, l, f))
other_spot a b (inr l) e = let same = same_Some (spot_of a) (spot_of b) e in let f : a.number ≡ b.number = ap (λ (s : Spot). s.number) same in let g = l.1 in absurd (omega (arith, g, f))

all_get : (P : ClassDecl → Type 0) (ks : List ClassDecl) (i : ℕ) (k : ClassDecl) → slice_get ks i ≡ Some k → AllByRecursion P ks → P k
all_get P [] i k e h = absurd cc
all_get P (x ∷ xs) zero k e h = subst P (same_Some x k e) h.0
all_get P (x ∷ xs) (suc i) k e h = all_get P xs i k e h.1

first_is : (x : ClassDecl) (xs : List ClassDecl) (c : Name) (b : Bool) → bytes_eq x.name c ≡ b → first_spot (x ∷ xs) c ≡ cond b (Some (spot_of x)) (first_spot xs c)
first_is x xs c b e = first_of (bytes_eq x.name c) x (filter (λ (j : ClassDecl). bytes_eq j.name c) xs) ∙ ap (λ (t : Bool). cond t (Some (spot_of x)) (first_spot xs c)) e

repeated_is : (ks : List ClassDecl) → IsAscendingBy Before ks → (i : ℕ) (k : ClassDecl) → slice_get ks i ≡ Some k
    → (IsRepeated ks i k.name → first_spot ks k.name ≢ Some (spot_of k)) × ((first_spot ks k.name ≢ Some (spot_of k)) → IsRepeated ks i k.name)
repeated_is [] a i k e = absurd cc
repeated_is (x ∷ xs) a zero k e =
    let same : x ≡ k = same_Some x k e in
    let test : bytes_eq x.name k.name ≡ true = (bytes_eq-Decides x.name k.name).1 (ap (λ (j : ClassDecl). j.name) same) in (
      λ r. absurd (let l = r.earlier in omega (arith, l)),
      λ differs. absurd (differs (first_is x xs k.name true test ∙ ap (λ (j : ClassDecl). Some (spot_of j)) same)),
    )
repeated_is (x ∷ xs) a (suc i) k e = go (repeated_is xs a.1 i k e) (bytes_eq x.name k.name) refl
  where
    go : (IsRepeated xs i k.name → first_spot xs k.name ≢ Some (spot_of k)) × ((first_spot xs k.name ≢ Some (spot_of k)) → IsRepeated xs i k.name) → (b : Bool) → bytes_eq x.name k.name ≡ b
        → (IsRepeated (x ∷ xs) (suc i) k.name → first_spot (x ∷ xs) k.name ≢ Some (spot_of k)) × ((first_spot (x ∷ xs) k.name ≢ Some (spot_of k)) → IsRepeated (x ∷ xs) (suc i) k.name)
    go rest true t = (
      λ r first. other_spot x k (all_get (Before x) xs i k e a.0) (sym (first_is x xs k.name true t) ∙ first),
      λ differs. record { place = 0; earlier = omega arith; class = x; there = refl; name = (bytes_eq-Decides x.name k.name).0 t },
    )
    go rest false t = (
      λ r first. rest.0 (in_rest r) (sym (first_is x xs k.name false t) ∙ first),
      λ differs. let r = rest.1 (λ first. differs (first_is x xs k.name false t ∙ first)) in record { place = suc r.place; earlier = (let l = r.earlier in omega (arith, l)); class = r.class; there = r.there; name = r.name },
    )
      where
        in_rest : IsRepeated (x ∷ xs) (suc i) k.name → IsRepeated xs i k.name
        in_rest r = by_place r.place r.earlier r.there
          where
            by_place : (j : ℕ) → j < suc i → slice_get (x ∷ xs) j ≡ Some r.class → IsRepeated xs i k.name
            by_place zero l g = let same : true ≡ false = sym ((bytes_eq-Decides x.name k.name).1 (ap (λ (y : ClassDecl). y.name) (same_Some x r.class g) ∙ r.name)) ∙ t in absurd cc
            by_place (suc j) l g = record { place = j; earlier = omega (arith, l); class = r.class; there = g; name = r.name }

pub repeat_law : RepeatLaw
repeat_law files i k e = repeated_is (classes_in files) (declared_ascend 0 (trees_of files)) i k e
