-- Sources found by the names of their files.
use Rattle.std.proofs.Common.{◌≡◌, ℕ, zero, suc, take, slice_get, Bool, true, false, cond, List, [], ◌∷◌, ◌++◌, map, find, option_map, Option, Some, None, Contains, refl, sym, ap, ◌∙◌, subst, bytes_eq}
use Rattle.std.specs.List.{AllByRecursion}
use Rattle.std.specs.Arc.{arc_value}
use Rattle.std.specs.declared.alloc.Global.{Global}
use Rattle.std.specs.declared.sync.Arc.{Arc}
use Rattle.std.specs.Map.{lookup}
use Rattle.std.proofs.lemmas.Option.{none-some, same_Some}
use Rattle.std.proofs.lemmas.Slice.Eq.{bytes_eq-Decides}
use Rattle.std.proofs.lemmas.List.Elements.{Contains-append_left, Contains-append_right, Contains-push}
use Rattle.item_ids.specs.declared.key.Key.{Key}
use Rattle.item_ids.specs.declared.key.Key.TheVariants as keys
use Rattle.result_bytes.specs.declared.value.Value.{Value}
use Rattle.result_bytes.specs.declared.value.Value.TheVariants.{Source}
use Rattle.named_files.specs.Projects.{SourceFile, names_of}
use Rattle.recorder.specs.Projects.{bytes_at}
use Rattle.project_inputs.specs.Inputs.{Sealed, bytes_in, file_of, IsSource}

-- names are told apart either way round
sought : (n m : List ℕ) → (b : Bool) → bytes_eq n m ≡ b → bytes_eq m n ≡ b
sought n m true is = (bytes_eq-Decides m n).1 (sym ((bytes_eq-Decides n m).0 is))
sought n m false is = elim (bytes_eq m n) as (λ b. bytes_eq m n ≡ b → bytes_eq m n ≡ false) [
  | true ↦ λ same. absurd (let t : true ≡ false = sym ((bytes_eq-Decides n m).1 (sym ((bytes_eq-Decides m n).0 same))) ∙ is in cc)
  | false ↦ λ other. other
] refl

-- what the look-up of a file's name says
abbrev Finds : List Sealed → List ℕ → Option (Arc Value Global) → Type 0
Finds es n None = bytes_at (map file_of es) n ≡ None
Finds es n (Some a) = bytes_at (map file_of es) n ≡ Some (bytes_in (arc_value a)) × (arc_value a ≡ Source (Some (bytes_in (arc_value a))))

here : (e : Sealed) (es : List Sealed) (n : List ℕ) → bytes_eq e.0 n ≡ true → bytes_at (map file_of (e ∷ es)) n ≡ Some (bytes_in (arc_value e.1))
here e es n is = ap (λ b. option_map (λ (f : SourceFile). f.bytes) (cond b (Some (file_of e)) (find (λ (f : SourceFile). bytes_eq f.name n) (map file_of es)))) is

later : (e : Sealed) (es : List Sealed) (n : List ℕ) → bytes_eq e.0 n ≡ false → bytes_at (map file_of (e ∷ es)) n ≡ bytes_at (map file_of es) n
later e es n is = ap (λ b. option_map (λ (f : SourceFile). f.bytes) (cond b (Some (file_of e)) (find (λ (f : SourceFile). bytes_eq f.name n) (map file_of es)))) is

later_finds : (e : Sealed) (es : List Sealed) (n : List ℕ) → bytes_eq e.0 n ≡ false → (o : Option (Arc Value Global)) → Finds es n o → Finds (e ∷ es) n o
later_finds e es n is None h = later e es n is ∙ h
later_finds e es n is (Some a) h = (later e es n is ∙ h.0, h.1)

finds : (es : List Sealed) → AllByRecursion IsSource es → (n : List ℕ) → Finds es n (lookup (bytes_eq n) es)
finds [] h n = refl
finds (e ∷ es) h n = elim (bytes_eq n e.0) as (λ b. bytes_eq n e.0 ≡ b → Finds (e ∷ es) n (cond b (Some e.1) (lookup (bytes_eq n) es))) [
  | true ↦ λ is. (here e es n (sought n e.0 true is), h.0)
  | false ↦ λ is. later_finds e es n (sought n e.0 false is) (lookup (bytes_eq n) es) (finds es h.1 n)
] refl

-- the source of a file that is there
pub source_there : (es : List Sealed) → AllByRecursion IsSource es → (n : List ℕ) (a : Arc Value Global) → lookup (bytes_eq n) es ≡ Some a → arc_value a ≡ Source (bytes_at (map file_of es) n)
source_there es h n a is = let f = subst (Finds es n) is (finds es h n) in f.1 ∙ sym (ap Source f.0)

-- there is no such file
pub source_missing : (es : List Sealed) → AllByRecursion IsSource es → (n : List ℕ) → lookup (bytes_eq n) es ≡ None → bytes_at (map file_of es) n ≡ None
source_missing es h n is = subst (Finds es n) is (finds es h n)

-- ---- one more source

pub name_missing : (es : List Sealed) (n : List ℕ) → (Contains (names_of (map file_of es)) n → ⊥) → lookup (bytes_eq n) es ≡ None
name_missing [] n h = refl
name_missing (e ∷ es) n h = elim (bytes_eq n e.0) as (λ b. bytes_eq n e.0 ≡ b → cond b (Some e.1) (lookup (bytes_eq n) es) ≡ None) [
  | true ↦ λ is. absurd (h (subst (λ (m : List ℕ). Contains (names_of (map file_of (e ∷ es))) m) (sym ((bytes_eq-Decides n e.0).0 is)) (Contains-append_left (e.0 ∷ []) (names_of (map file_of es)) e.0 (Contains-push [] e.0))))
  | false ↦ λ is. name_missing es n (λ c. h (Contains-append_right (e.0 ∷ []) (names_of (map file_of es)) n c))
] refl

pub files_more : (es : List Sealed) (e : Sealed) → map file_of (es ++ e ∷ []) ≡ map file_of es ++ file_of e ∷ []
files_more [] e = refl
files_more (x ∷ es) e = ap (λ (fs : List SourceFile). file_of x ∷ fs) (files_more es e)

pub sources_more : (es : List Sealed) (e : Sealed) → AllByRecursion IsSource es → IsSource e → AllByRecursion IsSource (es ++ e ∷ [])
sources_more [] e h p = (p, tt)
sources_more (x ∷ es) e h p = (h.0, sources_more es e h.1 p)

-- ---- keys of sources

pub key_more : (es : List Sealed) (i : ℕ) (e : Sealed) → slice_get es i ≡ Some e
    → map (λ (f : SourceFile). keys.Source f.name) (map file_of (take (suc i) es)) ≡ map (λ (f : SourceFile). keys.Source f.name) (map file_of (take i es)) ++ keys.Source e.0 ∷ []
key_more [] i e is = absurd (none-some e is)
key_more (x ∷ es) zero e is = ap (λ (s : Sealed). keys.Source s.0 ∷ []) (same_Some x e is)
key_more (x ∷ es) (suc i) e is = ap (λ (ks : List Key). keys.Source x.0 ∷ ks) (key_more es i e is)
