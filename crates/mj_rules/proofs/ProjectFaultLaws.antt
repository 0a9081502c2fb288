-- The list of a project's diagnostics has just those of the rows.
use Rattle.std.proofs.Common.{◌≡◌, ℕ, zero, suc, ◌<◌, Bool, true, false, not, ◌&&◌, ◌||◌, List, [], ◌∷◌, take, slice_get, Option, Some, None, is_some, Contains, refl, sym, ap, subst, ◌∙◌, inl, inr, true≢false}
use Rattle.std.proofs.Math.Bool.{or_assoc}
use Rattle.std.proofs.lemmas.Option.{none-some, same_Some}
use Rattle.std.proofs.lemmas.List.Elements.{Contains-append_left, Contains-append_right, Contains-append_cases}
use Rattle.std.proofs.lemmas.List.Folds.{Any-from_list_any, list_any_at}
use Rattle.std.proofs.lemmas.Bool.{and_parts}
use Rattle.mj_tree.specs.Trees.{File}
use Rattle.mj_tree.specs.declared.place.Place.{Place}
use Rattle.mj_tree.specs.declared.place.Place.TheVariants as places
use Rattle.mj_answer.specs.declared.code.Code.{Code}
use Rattle.mj_answer.specs.declared.code.Code.TheVariants.{E101, E102, E103, E104}
use Rattle.mj_answer.specs.declared.diagnostic.Diagnostic.{Diagnostic}
use Rattle.ordered_names.proofs.Alike.{Contains-first, nowhere}
use Rattle.mj_members.specs.Declarations.{ClassDecl}
use Rattle.named_files.specs.Projects.{SourceFile}
use Rattle.named_files.specs.Repeats.{is_in, repeats}
use Rattle.mj_rules.specs.Sentences.{IsSentence, file_of, classes_in}
use Rattle.mj_rules.specs.ProjectFaults.{FaultOfProject, NoSentence, NoMain, SecondMain, RepeatedClass, HasMain}
use Rattle.mj_rules.specs.FaultLists.{fault, when_fault, each_numbered, has_main, any_main, file_faults, files_faults, repeated_class, repeated_class_faults, class_names, project_faults}
use Rattle.mj_rules.specs.Laws.{SentenceLaw, ProjectFaultLaw}
use Rattle.named_files.proofs.Listed.{contains_at, place_before, contains_before, at_map, map_at, place_of}
use Rattle.named_files.proofs.RepeatLemmas.{Contains-is_in, is_in-Contains, repeats-at, flag_at}
use Rattle.mj_rules.proofs.Numbered.{only, from_when, to_when, IsFlagged, from_all, to_all}

or_false : (b : Bool) → b ≡ (b || false)
or_false true = refl
or_false false = refl

-- ---- the files

-- a diagnostic of the file at a place
record IsFileFault (before : Bool) (fs : List SourceFile) (d : Diagnostic) : Type 0 where
  i : ℕ
  f : SourceFile
  here : slice_get fs i ≡ Some f
  found : Contains (file_faults (before || any_main (take i fs)) f.name (file_of f.bytes)) d

from_files : (before : Bool) (fs : List SourceFile) (d : Diagnostic) → Contains (files_faults before fs) d → IsFileFault before fs d
from_files before [] d h = absurd (nowhere d h)
from_files before (f ∷ fs) d h =
    elim (Contains-append_cases (file_faults before f.name (file_of f.bytes)) (files_faults (before || has_main (file_of f.bytes)) fs) d h) [
      | inl a ↦ record { i = 0; f = f; here = refl; found = subst (λ b. Contains (file_faults b f.name (file_of f.bytes)) d) (or_false before) a }
      | inr b ↦ later (from_files (before || has_main (file_of f.bytes)) fs d b)
    ]
  where
    later : IsFileFault (before || has_main (file_of f.bytes)) fs d → IsFileFault before (f ∷ fs) d
    later r = record {
      i = suc r.i;
      f = r.f;
      here = r.here;
      found = subst (λ b. Contains (file_faults b r.f.name (file_of r.f.bytes)) d) (or_assoc before (has_main (file_of f.bytes)) (any_main (take r.i fs))) r.found;
    }

to_files : (before : Bool) (fs : List SourceFile) (d : Diagnostic) (i : ℕ) (f : SourceFile) → slice_get fs i ≡ Some f → Contains (file_faults (before || any_main (take i fs)) f.name (file_of f.bytes)) d
    → Contains (files_faults before fs) d
to_files before [] d i f e h = absurd (none-some f e)
to_files before (g ∷ fs) d zero f e h =
    let one : Contains (file_faults before f.name (file_of f.bytes)) d = subst (λ b. Contains (file_faults b f.name (file_of f.bytes)) d) (sym (or_false before)) h in
    Contains-append_left (file_faults before g.name (file_of g.bytes)) _ d (subst (λ (x : SourceFile). Contains (file_faults before x.name (file_of x.bytes)) d) (sym (same_Some g f e)) one)
to_files before (g ∷ fs) d (suc i) f e h =
    Contains-append_right (file_faults before g.name (file_of g.bytes)) _ d
    (to_files (before || has_main (file_of g.bytes)) fs d i f e
    (subst (λ b. Contains (file_faults b f.name (file_of f.bytes)) d) (sym (or_assoc before (has_main (file_of g.bytes)) (any_main (take i fs)))) h))

module _ (sentences : SentenceLaw) (files : List SourceFile) where
  has_main_of : (i : ℕ) (f : SourceFile) → HasMain files i f → has_main (file_of f.bytes) ≡ true
  has_main_of i f m = ap has_main ((sentences f.bytes m.tree).0 m.sentence) ∙ m.main

  has_main_at : (i : ℕ) (f : SourceFile) (o : Option File) → slice_get files i ≡ Some f → file_of f.bytes ≡ o → has_main o ≡ true → HasMain files i f
  has_main_at i f None e t h = absurd (true≢false (sym h))
  has_main_at i f (Some tree) e t h = record { file = e; tree = tree; sentence = (sentences f.bytes tree).1 t; main = h }

  -- an earlier file with a main class
  earlier_main : (j : ℕ) → any_main (take j files) ≡ true → (i : ℕ) × (f : SourceFile) × (i < j) × HasMain files i f
  earlier_main j h =
      let a = Any-from_list_any (λ (f : SourceFile). has_main (file_of f.bytes)) (take j files) h in
      let p = place_before j files a.1 (a.0, a.2, a.3) in
      (p.0, a.1, p.1, has_main_at p.0 a.1 (file_of a.1.bytes) p.2 refl a.4)

  any_main_at : (xs : List SourceFile) (f : SourceFile) → Contains xs f → has_main (file_of f.bytes) ≡ true → any_main xs ≡ true
  any_main_at xs f c h = list_any_at (λ (g : SourceFile). has_main (file_of g.bytes)) xs c.0 f c.1 (ap (λ (g : SourceFile). has_main (file_of g.bytes)) c.2 ∙ h)

  abbrev Row : Diagnostic → Type 0
  Row d = FaultOfProject files d.place d.code

  by_tree : (d : Diagnostic) (i : ℕ) (f : SourceFile) (o : Option File) → slice_get files i ≡ Some f → file_of f.bytes ≡ o → Contains (file_faults (any_main (take i files)) f.name o) d → Row d
  by_tree d i f None e t h = subst Row (only _ d h) (NoSentence f (contains_at files i f e) (λ tree s. none-some tree (sym t ∙ (sentences f.bytes tree).0 s)))
  by_tree d i f (Some tree) e t h =
      let w = from_when (any_main (take i files) && is_some tree.main) (places.File f.name) E103 d h in
      let both = and_parts (any_main (take i files)) (is_some tree.main) w.0 in
      let earlier = earlier_main i both.0 in
      subst Row w.1 (SecondMain earlier.0 i earlier.1 f earlier.2 earlier.3 (has_main_at i f (Some tree) e t both.1))

  by_file : (d : Diagnostic) (i j : ℕ) (b c : ClassDecl) (o : Option SourceFile) → i < j → slice_get (classes_in files) i ≡ Some b → slice_get (classes_in files) j ≡ Some c → b.name ≡ c.name
      → slice_get files c.file ≡ o → Contains (repeated_class o c.number) d → Row d
  by_file d i j b c None below eb ec same ef h = absurd (nowhere d h)
  by_file d i j b c (Some f) below eb ec same ef h = subst Row (only _ d h) (RepeatedClass i j b c f below eb ec same ef)

  by_flag : (d : Diagnostic) (j : ℕ) (c : ClassDecl) (flag : Bool) → slice_get (classes_in files) j ≡ Some c → flag ≡ is_in (take j (class_names (classes_in files))) c.name
      → Contains (repeated_class_faults files j flag c) d → Row d
  by_flag d j c false e s h = absurd (nowhere d h)
  by_flag d j c true e s h =
      let p = place_before j (class_names (classes_in files)) c.name (Contains-is_in (take j (class_names (classes_in files))) c.name (sym s)) in
      let m = at_map (λ (k : ClassDecl). k.name) (classes_in files) p.0 c.name p.2 in
      by_file d p.0 j m.0 c (slice_get files c.file) p.1 m.1 e m.2 refl h

  from_class : (d : Diagnostic) → IsFlagged (repeated_class_faults files) (classes_in files) (repeats (class_names (classes_in files))) d → Row d
  from_class d r =
      by_flag d r.i r.item r.flag r.here (repeats-at (class_names (classes_in files)) r.i r.flag r.item.name (map_at (λ (k : ClassDecl). k.name) (classes_in files) r.i r.item r.here) r.flagged) r.found

  abbrev repeated : List Diagnostic
  repeated = each_numbered (repeated_class_faults files) 0 (classes_in files) (repeats (class_names (classes_in files)))

  pub from_project_faults : (d : Diagnostic) → Contains (project_faults files) d → Row d
  unfolding project_faults
  from_project_faults d h =
      elim (Contains-append_cases (files_faults false files) _ d h) [
        | inl c ↦ let r = from_files false files d c in by_tree d r.i r.f (file_of r.f.bytes) r.here refl r.found
        | inr b ↦
            elim (Contains-append_cases repeated (when_fault (not (any_main files)) places.Project E102) d b) [
              | inl e ↦ from_class d (from_all (repeated_class_faults files) (classes_in files) (repeats (class_names (classes_in files))) d e)
              | inr a ↦
                  let w = from_when (not (any_main files)) places.Project E102 d a in
                  subst Row w.1 (NoMain (λ i f m. true≢false (sym w.0 ∙ ap not (any_main_at files f (contains_at files i f m.file) (has_main_of i f m)))))
            ]
      ]

  no_tree : (f : SourceFile) (o : Option File) → file_of f.bytes ≡ o → ((tree : File) → IsSentence f.bytes tree → ⊥) → file_of f.bytes ≡ None
  no_tree f None e none = e
  no_tree f (Some tree) e none = absurd (none tree ((sentences f.bytes tree).1 e))

  no_main : (b : Bool) → any_main files ≡ b → ((i : ℕ) (f : SourceFile) → HasMain files i f → ⊥) → not b ≡ true
  no_main false e none = refl
  no_main true e none =
      let a = Any-from_list_any (λ (f : SourceFile). has_main (file_of f.bytes)) files e in
      let p = place_of files a.1 (a.0, a.2, a.3) in
      absurd (none p.0 a.1 (has_main_at p.0 a.1 (file_of a.1.bytes) p.1 refl a.4))

  pub to_project_faults : {place : Place} {code : Code} → FaultOfProject files place code → Contains (project_faults files) (fault place code)
  unfolding project_faults
  to_project_faults (NoSentence f c none) =
      let p = place_of files f c in
      let t = no_tree f (file_of f.bytes) refl none in
      Contains-append_left (files_faults false files) _ _
      (to_files false files _ p.0 f p.1 (subst (λ o. Contains (file_faults (any_main (take p.0 files)) f.name o) (fault (places.File f.name) E101)) (sym t) (Contains-first _ [])))
  to_project_faults (NoMain none) = Contains-append_right (files_faults false files) _ _ (Contains-append_right repeated _ _ (to_when _ _ _ (no_main (any_main files) refl none)))
  to_project_faults (SecondMain i j f g below a b) =
      let earlier : any_main (take j files) ≡ true = any_main_at (take j files) f (contains_before j i files f below a.file) (has_main_of i f a) in
      let tree = (sentences g.bytes b.tree).0 b.sentence in
      let both : (any_main (take j files) && is_some b.tree.main) ≡ true = ap (λ e. e && is_some b.tree.main) earlier ∙ b.main in
      Contains-append_left (files_faults false files) _ _
      (to_files false files _ j g b.file (subst (λ o. Contains (file_faults (any_main (take j files)) g.name o) (fault (places.File g.name) E103)) (sym tree) (to_when _ _ _ both)))
  to_project_faults (RepeatedClass i j c d f below ec ed same ef) =
      let here = map_at (λ (k : ClassDecl). k.name) (classes_in files) j d ed in
      let flag = flag_at (class_names (classes_in files)) j d.name here in
      let before = contains_before j i (class_names (classes_in files)) d.name below (map_at (λ (k : ClassDecl). k.name) (classes_in files) i c ec ∙ ap Some same) in
      let set : flag.0 ≡ true = flag.2 ∙ is_in-Contains (take j (class_names (classes_in files))) d.name before in
      Contains-append_right (files_faults false files) _ _ (Contains-append_left repeated _ _
      (to_all (repeated_class_faults files) (classes_in files) (repeats (class_names (classes_in files))) _ j flag.0 d ed flag.1
      (subst (λ b. Contains (repeated_class_faults files j b d) (fault (places.ClassOf f.name d.number) E104)) (sym set)
      (subst (λ o. Contains (repeated_class o d.number) (fault (places.ClassOf f.name d.number) E104)) (sym ef) (Contains-first _ [])))))

pub project_fault_law : SentenceLaw → ProjectFaultLaw
project_fault_law sentences = λ files place code. (λ h. from_project_faults sentences files (fault place code) h, λ r. to_project_faults sentences files r)
