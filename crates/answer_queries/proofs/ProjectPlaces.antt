-- The diagnostics of a project stand in places of the project.
use Rattle.std.proofs.Common.{ℕ, ◌+◌, Bool, true, false, not, ◌||◌, ◌&&◌, is_some, List, [], ◌∷◌, ◌++◌, slice_get, Option, Some, None}
use Rattle.mj_tree.specs.Trees.{Name, File}
use Rattle.mj_tree.specs.declared.place.Place.{Place}
use Rattle.mj_tree.specs.declared.place.Place.TheVariants as places
use Rattle.mj_answer.specs.declared.code.Code.{Code}
use Rattle.mj_answer.specs.declared.code.Code.TheVariants.{E102, E103}
use Rattle.mj_answer.specs.declared.diagnostic.Diagnostic.{Diagnostic}
use Rattle.mj_classes.proofs.Tables.{all_append}
use Rattle.named_files.specs.Repeats.{repeats}
use Rattle.mj_rules.specs.FaultLists.{when_fault, each_numbered, has_main, file_faults}
use Rattle.mj_rules.proofs.Composing.{SameFaults}
use Rattle.item_ids.proofs.Lists.{all_from}
use Rattle.answer_bytes.specs.Storable.{IsProjectPlace, AreProjectFaults}
use Rattle.recorder.proofs.Recorded.{all_at}
use Rattle.body_query.proofs.Bounds.{small}
use Rattle.answer_queries.specs.Trees.{NamedTree}
use Rattle.answer_queries.specs.ProjectFaults.{any_main, files_faults, NamedClass, declared_names, class_names, repeated_class, repeat_faults, classes_faults, project_faults}

abbrev InProject : Diagnostic → Type 0
InProject fault = IsProjectPlace fault.place

when_placed : (b : Bool) (place : Place) (code : Code) → IsProjectPlace place → AreProjectFaults (when_fault b place code)
when_placed true place code h = (h, tt)
when_placed false place code h = tt

file_placed : (before : Bool) (name : Name) (o : Option File) → AreProjectFaults (file_faults before name o)
file_placed before name None = (tt, tt)
file_placed before name (Some tree) = when_placed (before && is_some tree.main) (places.File name) E103 tt

files_placed : (before : Bool) (files : List NamedTree) → AreProjectFaults (files_faults before files)
files_placed before [] = tt
files_placed before (f ∷ fs) = all_append InProject (file_faults before f.0 f.1) (files_faults (before || has_main f.1) fs) (file_placed before f.0 f.1) (files_placed (before || has_main f.1) fs)

module _ (files : List NamedTree) where
  repeated_placed : (o : Option NamedTree) (number : ℕ) → AreProjectFaults (repeated_class o number)
  repeated_placed None number = tt
  repeated_placed (Some f) number = (small number, tt)

  class_placed : (n : ℕ) (repeated : Bool) (c : NamedClass) → AreProjectFaults (repeat_faults files n repeated c)
  class_placed n true c = repeated_placed (slice_get files c.file) c.number
  class_placed n false c = tt

  each_placed : (n : ℕ) (cs : List NamedClass) (flags : List Bool) → AreProjectFaults (each_numbered (repeat_faults files) n cs flags)
  each_placed n [] flags = tt
  each_placed n (c ∷ cs) [] = tt
  each_placed n (c ∷ cs) (flag ∷ flags) = all_append InProject (repeat_faults files n flag c) (each_numbered (repeat_faults files) (n + 1) cs flags) (class_placed n flag c) (each_placed (n + 1) cs flags)

  pub all_placed : AreProjectFaults (project_faults files)
  unfolding project_faults
  all_placed =
      let classes : List NamedClass = declared_names files in
      let last : List Diagnostic = when_fault (not (any_main files)) places.Project E102 in
      all_append InProject (files_faults false files) (classes_faults files classes ++ last) (files_placed false files)
      (all_append InProject (classes_faults files classes) last (each_placed 0 classes (repeats (class_names classes))) (when_placed (not (any_main files)) places.Project E102 tt))

pub same_places : (xs ys : List Diagnostic) → SameFaults ys xs → AreProjectFaults xs → AreProjectFaults ys
same_places xs ys same h = all_from InProject ys (λ d c. all_at InProject xs d ((same d).0 c) h)
