-- The names of a project's files.
use Rattle.std.proofs.Common.{◌≡◌, ℕ, suc, zero, ◌<◌, List, [], ◌∷◌, map, take, length, get_or, slice_get, Some, Contains, refl, sym, ap, ◌∙◌, subst, string_bytes, String, Vec, arith}
use Rattle.std.specs.declared.alloc.Global.{Global}
use Rattle.std.proofs.lemmas.List.Elements.{Contains-append_left, Contains-append_right, Contains-push}
use Rattle.std.proofs.lemmas.Option.{slice_get-get_or}
use Rattle.result_bytes.specs.Storable.{AreDistinctNames}
use Rattle.named_files.specs.Projects.{SourceFile, source_view, names_of, IsFileName, IsProject}
use Rattle.named_files.proofs.Listed.{place_of}

has_first : {X : Type 0} (x : X) (xs : List X) → Contains (x ∷ xs) x
has_first x xs = Contains-append_left (x ∷ []) xs x (Contains-push [] x)

has_later : {X : Type 0} (x : X) (xs : List X) (z : X) → Contains xs z → Contains (x ∷ xs) z
has_later x xs z h = Contains-append_right (x ∷ []) xs z h

distinct : (names : List (List ℕ)) → ((k : ℕ) (name : List ℕ) → slice_get names k ≡ Some name → Contains (take k names) name → ⊥) → AreDistinctNames names
distinct [] h = tt
distinct (n ∷ ns) h = (
  (λ has. let at = place_of ns n has in h (suc at.0) n at.1 (has_first n (take at.0 ns))),
  distinct ns (λ k name e c. h (suc k) name e (has_later n (take k ns) name c)),
)

pub distinct_names : (p : List SourceFile) → IsProject p → AreDistinctNames (names_of p)
distinct_names p project = distinct (names_of p) project.distinct

name_at : (files : List (String Global × Vec ℕ Global)) (i : ℕ) (f : String Global × Vec ℕ Global) → i < length files → f ≡ get_or files i f
    → (k : List ℕ) → get_or (names_of (map source_view files)) i k ≡ string_bytes f.0
name_at [] i f lt is k = absurd (omega arith)
name_at (x ∷ xs) zero f lt is k = ap (λ (y : String Global × Vec ℕ Global). string_bytes y.0) (sym is)
name_at (x ∷ xs) (suc i) f lt is k = name_at xs i f (omega arith) is k

length_names : (files : List (String Global × Vec ℕ Global)) → length (names_of (map source_view files)) ≡ length files
length_names [] = refl
length_names (x ∷ xs) = ap suc (length_names xs)

-- each file of a project has a good name
pub good_name : (files : List (String Global × Vec ℕ Global)) → IsProject (map source_view files) → (i : ℕ) (f : String Global × Vec ℕ Global) → i < length files → f ≡ get_or files i f → IsFileName (string_bytes f.0)
good_name files project i f lt is =
    let l : i < length (names_of (map source_view files)) = let e = length_names files in omega arith in
    subst IsFileName (name_at files i f lt is []) (project.names i [] l)

names_before : (files : List (String Global × Vec ℕ Global)) (i : ℕ) → names_of (map source_view (take i files)) ≡ take i (names_of (map source_view files))
names_before files zero = refl
names_before [] (suc i) = refl
names_before (f ∷ files) (suc i) = ap (λ (ns : List (List ℕ)). string_bytes f.0 ∷ ns) (names_before files i)

-- no file before has the name of this one
pub new_name : (files : List (String Global × Vec ℕ Global)) → IsProject (map source_view files) → (i : ℕ) (f : String Global × Vec ℕ Global) → i < length files → f ≡ get_or files i f
    → Contains (names_of (map source_view (take i files))) (string_bytes f.0) → ⊥
new_name files project i f lt is has =
    let names = names_of (map source_view files) in
    let l : i < length (names_of (map source_view files)) = let e = length_names files in omega arith in
    project.distinct i (string_bytes f.0) (slice_get-get_or names i [] l ∙ ap Some (name_at files i f lt is [])) (subst (λ (ns : List (List ℕ)). Contains ns (string_bytes f.0)) (names_before files i) has)
