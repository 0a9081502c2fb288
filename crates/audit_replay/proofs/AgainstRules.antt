-- A session that holds the files of a project beside another project.
use Rattle.std.proofs.Common.{◌≡◌, ℕ, true, false, cond, find, List, [], ◌∷◌, length, Option, Some, option_map, inl, inr, refl, sym, ap, ◌∙◌, subst}
use Rattle.std.specs.Prelude.{Contains, bytes_eq, String, Vec}
use Rattle.std.specs.declared.alloc.Global.{Global}
use Rattle.std.proofs.lemmas.List.{length-map}
use Rattle.std.proofs.lemmas.Slice.Eq.{bytes_eq-Decides}
use Rattle.item_ids.specs.declared.key.Key.TheVariants.{Source}
use Rattle.result_bytes.specs.declared.value.Value.TheVariants as values
use Rattle.result_bytes.specs.Storable.{AreDistinctNames}
use Rattle.named_files.specs.Projects.{SourceFile, source_view, sources_view, names_of, IsProject}
use Rattle.recorder.specs.Projects.{Project, bytes_at}
use Rattle.graph_rules.specs.Pasts.{Past}
use Rattle.graph_rules.specs.Next.{AreSources}
use Rattle.audit_graph.proofs.Entries.{nowhere, contains_cases, contains_first, contains_later}
use Rattle.audit_graph.proofs.SourceRules.{distinct_from, bytes_first, bytes_later, one_names, names_held}
use Rattle.audit_graph.specs.Sources.{HasFiles}
use Rattle.audit_replay.specs.Audits.{HasValue}
use Rattle.audit_replay.specs.Projects.{HoldsFiles}

-- ---- files that are held, one after the other

called_all : (now : Past) (names : List (List ℕ)) (fs : List SourceFile) → HoldsFiles now names fs → names ≡ names_of fs
called_all now [] [] a = refl
called_all now [] (f ∷ fs) a = absurd a
called_all now (n ∷ ns) [] a = absurd a
called_all now (n ∷ ns) (f ∷ fs) a = ap (λ (x : List ℕ). x ∷ ns) a.0.called ∙ ap (λ (xs : List (List ℕ)). f.name ∷ xs) (called_all now ns fs a.1)

-- the first file of a name is held
held_for : (now : Past) (names : List (List ℕ)) (fs : List SourceFile) → HoldsFiles now names fs → (file : List ℕ) → Contains (names_of fs) file → HasValue now (Source file) (values.Source (bytes_at fs file))
held_for now [] [] a file c = absurd (nowhere file c)
held_for now [] (f ∷ fs) a file c = absurd a
held_for now (n ∷ ns) [] a file c = absurd a
held_for now (n ∷ ns) (f ∷ fs) a file c =
    (elim (bytes_eq f.name file) as (λ b. bytes_eq f.name file ≡ b → HasValue now (Source file) (values.Source (option_map (λ (g : SourceFile). g.bytes) (cond b (Some f) (find (λ (g : SourceFile). bytes_eq g.name file) fs))))) [
      | true ↦ λ same. subst (λ (x : List ℕ). HasValue now (Source x) (values.Source (Some f.bytes))) (a.0.called ∙ (bytes_eq-Decides f.name file).0 same) a.0.held
      | false ↦ λ other. held_for now ns fs a.1 file (elim (contains_cases f.name (names_of fs) file c) [
        | inl same ↦ absurd (let t : true ≡ false = sym ((bytes_eq-Decides f.name file).1 same) ∙ other in cc)
        | inr later ↦ later
      ])
    ]) refl

files_of : (now : Past) (fs : List SourceFile) → ((f : SourceFile) → Contains fs f → HasValue now (Source f.name) (values.Source (Some f.bytes))) → HoldsFiles now (names_of fs) fs
files_of now [] h = tt
files_of now (f ∷ fs) h = (record { called = refl; held = h f (contains_first f fs) }, files_of now fs (λ g c. h g (contains_later f fs g c)))

-- ---- the bytes of a file whose name no other has

pub name_in : (fs : List SourceFile) (f : SourceFile) → Contains fs f → Contains (names_of fs) f.name
name_in [] f c = absurd (nowhere f c)
name_in (g ∷ gs) f c = elim (contains_cases g gs f c) [
  | inl same ↦ subst (λ (x : SourceFile). Contains (g.name ∷ names_of gs) x.name) same (contains_first g.name (names_of gs))
  | inr later ↦ contains_later g.name (names_of gs) f.name (name_in gs f later)
]

bytes_found : (fs : List SourceFile) → AreDistinctNames (names_of fs) → (f : SourceFile) → Contains fs f → bytes_at fs f.name ≡ Some f.bytes
bytes_found [] d f c = absurd (nowhere f c)
bytes_found (g ∷ gs) d f c = elim (contains_cases g gs f c) [
  | inl same ↦ subst (λ (x : SourceFile). bytes_at (g ∷ gs) x.name ≡ Some x.bytes) same (bytes_first g gs)
  | inr later ↦ bytes_later g gs f.name (λ e. d.0 (subst (Contains (names_of gs)) (sym e) (name_in gs f later))) ∙ bytes_found gs d.1 f later
]

-- ---- one project and another

module _ (now : Past) (names : List (List ℕ)) (held : HasFiles now names) where
  pub same_names : (p : Project) → AreSources now p → names ≡ names_of p
  same_names p s = one_names now names (names_of p) held (names_held now p s)

  pub are_sources : (old p : Project) → AreSources now old → IsProject p → HoldsFiles now names p → AreSources now p
  are_sources old p s is a =
      let called = called_all now names p a in
      record {
        project = is;
        files = (held.entry, held.has, held.value ∙ ap (λ (ns : List (List ℕ)). values.Files ns) called);
        each = λ file c. (let h = held_for now names p a file c in (h.entry, h.has, h.value));
        others = λ file x e. subst (λ (ns : List (List ℕ)). Contains ns file) (sym (same_names old s) ∙ called) (s.others file x e);
      }

  pub are_files : (p : Project) → AreSources now p → HoldsFiles now names p
  are_files p s = subst (λ (ns : List (List ℕ)). HoldsFiles now ns p) (sym (same_names p s)) (files_of now p each)
    where
      each : (f : SourceFile) → Contains p f → HasValue now (Source f.name) (values.Source (Some f.bytes))
      each f c =
          let x = s.each f.name (name_in p f c) in
          record {
            entry = x.0;
            has = x.1;
            value = x.2 ∙ ap (λ (o : Option (List ℕ)). values.Source o) (bytes_found p (distinct_from (names_of p) s.project.distinct) f c);
          }

pub viewed_length : (files : List (String Global × Vec ℕ Global)) → length (sources_view files) ≡ length files
viewed_length files = length-map files source_view
