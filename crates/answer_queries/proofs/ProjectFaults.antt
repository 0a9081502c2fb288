-- The diagnostics of a project by the trees of its files are those of the rules.
use Rattle.std.proofs.Common.{◌≡◌, ℕ, ◌+◌, ◌<◌, ◌^◌, Bool, false, not, ◌||◌, List, [], ◌∷◌, ◌++◌, map, slice_get, Option, Some, None, option_map, refl, ap, ap₂, ◌∙◌, if◌then◌else◌}
use Rattle.std.specs.List.{AllByRecursion}
use Rattle.std.proofs.lemmas.Option.{slice_get-map}
use Rattle.mj_tree.specs.declared.place.Place.TheVariants as places
use Rattle.mj_answer.specs.declared.code.Code.TheVariants.{E102, E104}
use Rattle.mj_answer.specs.declared.diagnostic.Diagnostic.{Diagnostic}
use Rattle.mj_members.specs.Declarations.{ClassDecl}
use Rattle.mj_classes.specs.Declarations.{declarations}
use Rattle.named_files.specs.Projects.{SourceFile}
use Rattle.named_files.specs.Repeats.{repeats}
use Rattle.mj_rules.specs.Sentences.{file_of, classes_in}
use Rattle.mj_rules.specs.FaultLists as rules
use Rattle.mj_rules.specs.FaultLists.{fault, when_fault, each_numbered, has_main, file_faults}
use Rattle.recorder.specs.Projects.{Project}
use Rattle.body_query.proofs.Bounds.{same_number}
use Rattle.member_queries.proofs.Tables.{map_twice}
use Rattle.answer_queries.specs.ProjectFaults.{any_main, files_faults, NamedClass, named_class, named_classes, class_names, repeated_class, repeat_faults, classes_faults, project_faults}
use Rattle.answer_queries.proofs.FileTrees.{read_file, read_files, trees_same}
use Rattle.answer_queries.proofs.Numbers.{IsSmall, small_numbers}

any_same : (fs : List SourceFile) → any_main (map read_file fs) ≡ rules.any_main fs
any_same [] = refl
any_same (f ∷ fs) = ap (λ b. has_main (file_of f.bytes) || b) (any_same fs)

files_same : (before : Bool) (fs : List SourceFile) → files_faults before (map read_file fs) ≡ rules.files_faults before fs
files_same before [] = refl
files_same before (f ∷ fs) = ap (λ (ds : List Diagnostic). file_faults before f.name (file_of f.bytes) ++ ds) (files_same (before || has_main (file_of f.bytes)) fs)

names_same : (ks : List ClassDecl) → class_names (named_classes ks) ≡ rules.class_names ks
names_same ks = map_twice named_class (λ (c : NamedClass). c.name) ks

module _ (p : Project) where
  repeated_same : (o : Option SourceFile) (number : ℕ) → number < 2 ^ 32 → repeated_class (option_map read_file o) number ≡ rules.repeated_class o number
  repeated_same None number small = refl
  repeated_same (Some f) number small = ap (λ n. fault (places.ClassOf f.name n) E104 ∷ []) (same_number number small)

  class_same : (n : ℕ) (repeated : Bool) (k : ClassDecl) → IsSmall k → repeat_faults (read_files p) n repeated (named_class k) ≡ rules.repeated_class_faults p n repeated k
  class_same n repeated k small =
      ap (λ (ds : List Diagnostic). if repeated then ds else [])
      (ap (λ o. repeated_class o k.number) (slice_get-map read_file p k.file) ∙ repeated_same (slice_get p k.file) k.number small)

  classes_same : (n : ℕ) (ks : List ClassDecl) (flags : List Bool) → AllByRecursion IsSmall ks → each_numbered (repeat_faults (read_files p)) n (named_classes ks) flags ≡ each_numbered (rules.repeated_class_faults p) n ks flags
  classes_same n [] flags h = refl
  classes_same n (k ∷ ks) [] h = refl
  classes_same n (k ∷ ks) (flag ∷ flags) h = ap₂ (λ (xs ys : List Diagnostic). xs ++ ys) (class_same n flag k h.0) (classes_same (n + 1) ks flags h.1)

  pub faults_same : project_faults (read_files p) ≡ rules.project_faults p
  unfolding project_faults rules.project_faults
  faults_same =
      ap₂ (λ (xs ys : List Diagnostic). xs ++ ys) (files_same false p)
      (ap₂ (λ (xs ys : List Diagnostic). xs ++ ys)
      (ap (λ ts. classes_faults (read_files p) (named_classes (declarations ts))) (trees_same p)
      ∙ (ap (λ ns. each_numbered (repeat_faults (read_files p)) 0 (named_classes (classes_in p)) (repeats ns)) (names_same (classes_in p))
      ∙ classes_same 0 (classes_in p) (repeats (rules.class_names (classes_in p))) (small_numbers p)))
      (ap (λ b. when_fault (not b) places.Project E102) (any_same p)))
