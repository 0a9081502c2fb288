-- The diagnostics of a project itself, by the trees of its files.
use Rattle.std.specs.Prelude.{ℕ, Bool, false, not, ◌||◌, List, [], ◌∷◌, ◌++◌, map, Option, Some, None, slice_get, if◌then◌else◌}
use Rattle.std.specs.List.{list_any}
use Rattle.mj_tree.specs.Trees.{Name}
use Rattle.mj_tree.specs.declared.place.Place.TheVariants as places
use Rattle.mj_answer.specs.declared.code.Code.TheVariants.{E102, E104}
use Rattle.mj_answer.specs.declared.diagnostic.Diagnostic.{Diagnostic}
use Rattle.mj_members.specs.Declarations.{ClassDecl}
use Rattle.mj_classes.specs.Declarations.{declarations}
use Rattle.named_files.specs.Repeats.{repeats}
use Rattle.mj_rules.specs.FaultLists.{fault, when_fault, each_numbered, has_main, file_faults}
use Rattle.body_query.specs.Bounds.{bound}
use Rattle.answer_queries.specs.Trees.{NamedTree}
use Rattle.answer_queries.specs.declared.project_faults.DeclaredName.{DeclaredName}

-- ---- files

-- one of the files has a main class
abbrev pub any_main : List NamedTree → Bool
any_main files = list_any (λ f. has_main f.1) files

-- what is wrong with the files, by whether an earlier one has a main class
abbrev pub files_faults : Bool → List NamedTree → List Diagnostic
files_faults main_before [] = []
files_faults main_before (f ∷ fs) =
    file_faults main_before f.0 f.1 ++ files_faults (main_before || has_main f.1) fs

-- ---- classes by their names

-- a class by its file, its number there and its name
pub record NamedClass : Type 0 where
  pub file : ℕ
  pub number : ℕ
  pub name : Name

abbrev pub named_class : ClassDecl → NamedClass
named_class k = record { file = k.file; number = k.number; name = k.name }

abbrev pub named_classes : List ClassDecl → List NamedClass
named_classes ks = map named_class ks

-- all classes that the files declare, in order
abbrev pub declared_names : List NamedTree → List NamedClass
declared_names files = named_classes (declarations (map (λ f. f.1) files))

abbrev pub class_names : List NamedClass → List Name
class_names classes = map (λ c. c.name) classes

-- what contracts see of the names that the code has
abbrev pub name_view : DeclaredName → NamedClass
name_view c = record { file = c.file; number = c.number; name = c.name.now }

abbrev pub names_view : List DeclaredName → List NamedClass
names_view classes = map name_view classes

-- ---- classes whose names earlier classes have

abbrev pub repeated_class : Option NamedTree → ℕ → List Diagnostic
repeated_class None number = []
repeated_class (Some f) number = fault (places.ClassOf f.0 (bound number)) E104 ∷ []

abbrev pub repeat_faults : List NamedTree → ℕ → Bool → NamedClass → List Diagnostic
repeat_faults files n repeated c =
    if repeated then repeated_class (slice_get files c.file) c.number else []

abbrev pub classes_faults : List NamedTree → List NamedClass → List Diagnostic
classes_faults files classes =
    each_numbered (repeat_faults files) 0 classes (repeats (class_names classes))

-- ---- all of them

unfoldable pub project_faults : List NamedTree → List Diagnostic
project_faults files =
    files_faults false files
    ++ (classes_faults files (declared_names files)
    ++ when_fault (not (any_main files)) places.Project E102)
