-- The project whose files a session holds.
use Rattle.std.proofs.Common.{◌≡◌, ℕ, suc, zero, inl, inr, true, false, cond, List, [], ◌∷◌, map, take, find, slice_get, Option, Some, None, option_map, All, refl, sym, ap, ◌∙◌, subst, arith, bytes_eq}
use Rattle.std.specs.Prelude.{Contains}
use Rattle.std.specs.List.{AllByRecursion}
use Rattle.std.proofs.lemmas.Option.{none-some, same_Some}
use Rattle.std.proofs.lemmas.List.{length-map}
use Rattle.std.proofs.lemmas.List.Elements.{All-from_recursion}
use Rattle.std.proofs.lemmas.Slice.Eq.{bytes_eq-Decides}
use Rattle.byte_readers.specs.Names.{IsName}
use Rattle.item_ids.specs.declared.key.Key.TheVariants.{Source}
use Rattle.item_ids.specs.Keys.{kind_of}
use Rattle.result_bytes.specs.declared.value.Value.{Value}
use Rattle.result_bytes.specs.declared.value.Value.TheVariants as values
use Rattle.result_bytes.specs.Storable.{AreDistinctNames, FileNamesFit}
use Rattle.named_files.specs.Projects.{SourceFile, names_of, IsFileName, IsProject}
use Rattle.named_files.proofs.Listed.{place_of}
use Rattle.recorder.specs.Projects.{Project, bytes_at}
use Rattle.sessions.specs.Sessions.{Entry, SessionValue, IsSession, entries, entry_at}
use Rattle.graph_rules.specs.Pasts.{Past}
use Rattle.graph_rules.specs.Next.{AreSources}
use Rattle.graph_rules.proofs.NextRules.{all_at}
use Rattle.graph_rules.proofs.SessionRules.{session_graph}
use Rattle.audit_graph.specs.Sources.{HasFiles, HasBytes, HasSources, IsNoStray, source_keys}
use Rattle.audit_graph.proofs.Entries.{all_told, nowhere, contains_cases, contains_first, contains_later, contains_there}

-- ---- the project that is held

abbrev bytes_in : Value → List ℕ
bytes_in (values.Source (Some bytes)) = bytes
bytes_in _ = []

abbrev text_in : Option Entry → List ℕ
text_in (Some r) = bytes_in r.value
text_in None = []

abbrev file_in : Past → List ℕ → SourceFile
file_in now name = record { name = name; bytes = text_in (now (Source name)) }

abbrev project_in : Past → List (List ℕ) → Project
project_in now names = map (file_in now) names

names_in : (now : Past) (names : List (List ℕ)) → names_of (project_in now names) ≡ names
names_in now [] = refl
names_in now (n ∷ ns) = ap (λ (ms : List (List ℕ)). n ∷ ms) (names_in now ns)

bytes_there : (now : Past) (names : List (List ℕ)) (file : List ℕ) → Contains names file → bytes_at (project_in now names) file ≡ Some (text_in (now (Source file)))
bytes_there now [] file c = absurd (nowhere file c)
bytes_there now (n ∷ ns) file c =
    (elim (bytes_eq n file) as (λ b. bytes_eq n file ≡ b → option_map (λ (f : SourceFile). f.bytes) (cond b (Some (file_in now n)) (find (λ (f : SourceFile). bytes_eq f.name file) (project_in now ns))) ≡ Some (text_in (now (Source file)))) [
      | true ↦ λ same. ap (λ (m : List ℕ). Some (text_in (now (Source m)))) ((bytes_eq-Decides n file).0 same)
      | false ↦ λ other. bytes_there now ns file (elim (contains_cases n ns file c) [
        | inl same ↦ absurd (let t : true ≡ false = sym ((bytes_eq-Decides n file).1 same) ∙ other in cc)
        | inr later ↦ later
      ])
    ]) refl

-- ---- names that differ

not_before : (names : List (List ℕ)) → AreDistinctNames names → (k : ℕ) (name : List ℕ) → slice_get names k ≡ Some name → Contains (take k names) name → ⊥
not_before [] d k name is c = none-some name is
not_before (n ∷ ns) d zero name is c = nowhere name c
not_before (n ∷ ns) d (suc k) name is c = elim (contains_cases n (take k ns) name c) [
  | inl same ↦ d.0 (subst (Contains ns) (sym same) (contains_there ns k name is))
  | inr later ↦ not_before ns d.1 k name is later
]

good_names : (names : List (List ℕ)) → AllByRecursion IsName names → AllByRecursion IsFileName names
good_names [] a = tt
good_names (n ∷ ns) a = ((a.0.some, a.0.short), good_names ns a.1)

is_project : (now : Past) (names : List (List ℕ)) → FileNamesFit names → IsProject (project_in now names)
is_project now names fit = record {
  size = (omega (arith, fit.some, length-map names (file_in now)), omega (arith, fit.few, length-map names (file_in now)));
  names = subst (All IsFileName) (sym (names_in now names)) (All-from_recursion IsFileName names (good_names names fit.each));
  distinct = subst (λ (ms : List (List ℕ)). (k : ℕ) (name : List ℕ) → slice_get ms k ≡ Some name → Contains (take k ms) name → ⊥) (sym (names_in now names)) (not_before names fit.distinct);
}

-- ---- sources of names

pub source_there : (names : List (List ℕ)) (file : List ℕ) → Contains names file → Contains (source_keys names) (Source file)
source_there [] file c = absurd (nowhere file c)
source_there (n ∷ ns) file c = elim (contains_cases n ns file c) [
  | inl same ↦ subst (λ (m : List ℕ). Contains (source_keys (n ∷ ns)) (Source m)) same (contains_first (Source n) (source_keys ns))
  | inr later ↦ contains_later (Source n) (source_keys ns) (Source file) (source_there ns file later)
]

source_names : (a b : List ℕ) → Source a ≡ Source b → a ≡ b
source_names a b e = cc

name_there : (names : List (List ℕ)) (file : List ℕ) → Contains (source_keys names) (Source file) → Contains names file
name_there [] file c = absurd (nowhere (Source file) c)
name_there (n ∷ ns) file c = elim (contains_cases (Source n) (source_keys ns) (Source file) c) [
  | inl same ↦ subst (Contains (n ∷ ns)) (source_names n file same) (contains_first n ns)
  | inr later ↦ contains_later n ns file (name_there ns file later)
]

-- ---- a session that holds names, bytes for each, and no other source

module _ (s : SessionValue) (session : IsSession s) (names : List (List ℕ)) (fit : FileNamesFit names) (files : HasFiles (entry_at s) names)
    (each : AllByRecursion (HasBytes (entry_at s)) (source_keys names)) (strays : AllByRecursion (IsNoStray (source_keys names)) (entries s)) where
  abbrev p : Project
  p = project_in (entry_at s) names

  to_names : (file : List ℕ) → Contains (names_of p) file → Contains names file
  to_names file c = subst (λ (ms : List (List ℕ)). Contains ms file) (names_in (entry_at s) names) c

  source_at : (file : List ℕ) → Contains (names_of p) file → (r : Entry) × (entry_at s (Source file) ≡ Some r) × (r.value ≡ values.Source (bytes_at p file))
  source_at file c =
      let here = to_names file c in
      let h = all_at (HasBytes (entry_at s)) (source_keys names) each (Source file) (source_there names file here) in
      let text : text_in (entry_at s (Source file)) ≡ h.bytes = ap text_in h.has ∙ ap bytes_in h.value in
      (h.entry, h.has, h.value ∙ ap (λ (o : Option (List ℕ)). values.Source o) (ap Some (sym text) ∙ sym (bytes_there (entry_at s) names file here)))

  no_other : (file : List ℕ) (r : Entry) → entry_at s (Source file) ≡ Some r → Contains (names_of p) file
  no_other file r has =
      let key = (session_graph s session).key (Source file) r has in
      let c = all_told (IsNoStray (source_keys names)) s strays (Source file) r has (ap kind_of key) in
      subst (λ (ms : List (List ℕ)). Contains ms file) (sym (names_in (entry_at s) names)) (name_there names file (subst (Contains (source_keys names)) key c))

  pub has_sources : HasSources (entry_at s)
  has_sources = (
    p,
    record {
      project = is_project (entry_at s) names fit;
      files = (files.entry, files.has, files.value ∙ ap (λ (ms : List (List ℕ)). values.Files ms) (sym (names_in (entry_at s) names)));
      each = source_at;
      others = no_other;
    },
  )

-- ---- one project

-- a session holds one list of names
pub one_names : (now : Past) (a b : List (List ℕ)) → HasFiles now a → HasFiles now b → a ≡ b
one_names now a b x y =
    let e : x.entry ≡ y.entry = same_Some _ _ (sym x.has ∙ y.has) in
    let v : values.Files a ≡ values.Files b = sym x.value ∙ (ap (λ (r : Entry). r.value) e ∙ y.value) in
    cc

pub names_held : (now : Past) (p : Project) → AreSources now p → HasFiles now (names_of p)
names_held now p s = record { entry = s.files.0; has = s.files.1; value = s.files.2 }

module _ (now : Past) (p r : Project) (a : AreSources now p) (b : AreSources now r) where
  same_names : names_of p ≡ names_of r
  same_names = one_names now (names_of p) (names_of r) (names_held now p a) (names_held now r b)

  same_bytes : (file : List ℕ) → Contains (names_of p) file → bytes_at p file ≡ bytes_at r file
  same_bytes file c =
      let x = a.each file c in
      let y = b.each file (subst (λ (ms : List (List ℕ)). Contains ms file) same_names c) in
      let e : x.0 ≡ y.0 = same_Some _ _ (sym x.1 ∙ y.1) in
      let v : values.Source (bytes_at p file) ≡ values.Source (bytes_at r file) = sym x.2 ∙ (ap (λ (z : Entry). z.value) e ∙ y.2) in
      cc

pub distinct_from : (names : List (List ℕ)) → ((k : ℕ) (name : List ℕ) → slice_get names k ≡ Some name → Contains (take k names) name → ⊥) → AreDistinctNames names
distinct_from [] h = tt
distinct_from (n ∷ ns) h = (
  (λ has. let at = place_of ns n has in h (suc at.0) n at.1 (contains_first n (take at.0 ns))),
  distinct_from ns (λ k name e c. h (suc k) name e (contains_later n (take k ns) name c)),
)

pub bytes_first : (f : SourceFile) (fs : Project) → bytes_at (f ∷ fs) f.name ≡ Some f.bytes
bytes_first f fs = ap (λ b. option_map (λ (g : SourceFile). g.bytes) (cond b (Some f) (find (λ (g : SourceFile). bytes_eq g.name f.name) fs))) ((bytes_eq-Decides f.name f.name).1 refl)

pub bytes_later : (f : SourceFile) (fs : Project) (file : List ℕ) → (f.name ≡ file → ⊥) → bytes_at (f ∷ fs) file ≡ bytes_at fs file
bytes_later f fs file other =
    (elim (bytes_eq f.name file) as (λ b. bytes_eq f.name file ≡ b → option_map (λ (g : SourceFile). g.bytes) (cond b (Some f) (find (λ (g : SourceFile). bytes_eq g.name file) fs)) ≡ bytes_at fs file) [
      | true ↦ λ same. absurd (other ((bytes_eq-Decides f.name file).0 same))
      | false ↦ λ _. refl
    ]) refl

abbrev made : List ℕ → List ℕ → SourceFile
made n b = record { name = n; bytes = b }

same_file : (f g : SourceFile) → f.name ≡ g.name → f.bytes ≡ g.bytes → f ≡ g
same_file f g a b = ap (λ (n : List ℕ). made n f.bytes) a ∙ ap (λ (x : List ℕ). made g.name x) b

same_files : (p r : Project) → names_of p ≡ names_of r → AreDistinctNames (names_of p) → ((file : List ℕ) → Contains (names_of p) file → bytes_at p file ≡ bytes_at r file) → p ≡ r
same_files [] [] names d bytes = refl
same_files [] (g ∷ gs) names d bytes = absurd (cc)
same_files (f ∷ fs) [] names d bytes = absurd (cc)
same_files (f ∷ fs) (g ∷ gs) names d bytes =
    let name : f.name ≡ g.name = cc in
    let rest : names_of fs ≡ names_of gs = cc in
    let b = bytes f.name (contains_first f.name (names_of fs)) in
    let text : f.bytes ≡ g.bytes = same_Some _ _ (sym (bytes_first f fs) ∙ (b ∙ (ap (bytes_at (g ∷ gs)) name ∙ bytes_first g gs))) in
    let same : f ≡ g = same_file f g name text in
    let tails = same_files fs gs rest d.1 (λ file c.
    let other : f.name ≡ file → ⊥ = λ e. d.0 (subst (Contains (names_of fs)) (sym e) c) in
    sym (bytes_later f fs file other) ∙ (bytes file (contains_later f.name (names_of fs) file c) ∙ bytes_later g gs file (λ e. other (name ∙ e)))) in
    ap (λ (x : SourceFile). x ∷ fs) same ∙ ap (λ (xs : Project). g ∷ xs) tails

pub one_project : (now : Past) (p r : Project) → AreSources now p → AreSources now r → p ≡ r
one_project now p r a b = same_files p r (same_names now p r a b) (distinct_from (names_of p) a.project.distinct) (same_bytes now p r a b)
