-- The sealed sources of files.
use Rattle.std.proofs.Common.{◌≡◌, ℕ, ◌+◌, ◌<◌, List, [], ◌∷◌, ◌++◌, map, take, length, get_or, None, Some, refl, sym, ap, ◌∙◌, subst, zero, suc, string_bytes, String, Vec, arith}
use Rattle.std.specs.List.{AllByRecursion}
use Rattle.std.specs.Arc.{arc_value}
use Rattle.std.specs.declared.alloc.Global.{Global}
use Rattle.std.specs.declared.sync.Arc.{Arc}
use Rattle.std.proofs.lemmas.List.{get_or-map, length-map, map-append, take_more}
use Rattle.result_bytes.specs.declared.value.Value.{Value}
use Rattle.result_bytes.specs.declared.value.Value.TheVariants.{Source}
use Rattle.named_files.specs.Projects.{SourceFile, source_view, IsFileName, IsProject}
use Rattle.project_inputs.specs.Inputs.{AreNamed, AreSourcesOf}
use Rattle.project_inputs.proofs.InputRules.{good_name}

-- ---- names

all_where : {X : Type 0} (P : X → Type 0) (xs : List X) → ((i : ℕ) (x : X) → i < length xs → x ≡ get_or xs i x → P x) → AllByRecursion P xs
all_where P [] h = tt
all_where P (x ∷ xs) h = (h 0 x (omega arith) refl, all_where P xs (λ i y lt is. h (suc i) y (omega (arith, lt)) is))

pub named : (files : List (String Global × Vec ℕ Global)) → IsProject (map source_view files) → AreNamed files
named files project = all_where (λ f. IsFileName (string_bytes f.0)) files (λ i f lt is. good_name files project i f lt is)

pub named_at : (files : List (String Global × Vec ℕ Global)) → AreNamed files → (i : ℕ) (f : String Global × Vec ℕ Global) → i < length files → f ≡ get_or files i f → IsFileName (string_bytes f.0)
named_at [] h i f lt is = absurd (omega arith)
named_at (x ∷ xs) h zero f lt is = subst (λ (y : String Global × Vec ℕ Global). IsFileName (string_bytes y.0)) (sym is) h.0
named_at (x ∷ xs) h (suc i) f lt is = named_at xs h.1 i f (omega arith) is

-- ---- sources

pub as_many : (files : List (String Global × Vec ℕ Global)) (sealed : List (Arc Value Global)) → AreSourcesOf (map source_view files) sealed → length sealed ≡ length files
as_many files sealed are = sym (length-map sealed (λ a. arc_value a)) ∙ (ap length are ∙ (length-map (map source_view files) (λ f. Source (Some f.bytes)) ∙ length-map files source_view))

pub source_at : (files : List (String Global × Vec ℕ Global)) (sealed : List (Arc Value Global)) → AreSourcesOf (map source_view files) sealed
    → (i : ℕ) (f : String Global × Vec ℕ Global) (a : Arc Value Global) → i < length files → f ≡ get_or files i f → a ≡ get_or sealed i a → arc_value a ≡ Source (Some f.1.items)
source_at files sealed are i f a lt f_is a_is =
    let none = Source None in
    let l : i < length sealed = omega (arith, lt, as_many files sealed are) in
    let m : i < length (map source_view files) = omega (arith, lt, length-map files source_view) in
    ap (λ (x : Arc Value Global). arc_value x) a_is
    ∙ (sym (get_or-map (λ (x : Arc Value Global). arc_value x) sealed i a none l)
    ∙ (ap (λ (xs : List Value). get_or xs i none) are
    ∙ (get_or-map (λ (x : SourceFile). Source (Some x.bytes)) (map source_view files) i (source_view f) none m
    ∙ (ap (λ (x : SourceFile). Source (Some x.bytes)) (get_or-map source_view files i f (source_view f) lt)
    ∙ ap (λ (x : String Global × Vec ℕ Global). Source (Some x.1.items)) (sym f_is)))))

-- one more file
pub files_more_view : (files : List (String Global × Vec ℕ Global)) (at : ℕ) (f : String Global × Vec ℕ Global) → at < length files → f ≡ get_or files at f
    → (old new : List SourceFile) (x : SourceFile) → new ≡ old ++ x ∷ [] → old ≡ map source_view (take at files) → x ≡ source_view f → new ≡ map source_view (take (at + 1) files)
files_more_view files at f lt is old new x more so_far x_is =
    more ∙ (ap (λ (xs : List SourceFile). xs ++ x ∷ []) so_far
    ∙ (ap (λ (y : SourceFile). map source_view (take at files) ++ y ∷ []) (x_is ∙ ap source_view is)
    ∙ (sym (map-append source_view (take at files) (get_or files at f ∷ [])) ∙ ap (map source_view) (sym (take_more files at f lt)))))
