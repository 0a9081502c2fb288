-- The answer of the rules as a function.
use Rattle.std.specs.Prelude.{List, [], ◌∷◌, map, filter_map}
use Rattle.std.specs.Ordering.{nat_cmp, ordering_then, match_ordering}
use Rattle.std.specs.Cmp.Lexicographic.{slice_cmp}
use Rattle.std.specs.declared.cmp.Ordering.{Ordering}
use Rattle.mj_tree.specs.Trees.{Name}
use Rattle.mj_answer.specs.declared.diagnostic.Diagnostic.{Diagnostic}
use Rattle.mj_answer.specs.AnswerValues.{ClassAnswerValue, AnswerValue}
use Rattle.mj_answer.specs.Codes.{code_number}
use Rattle.mj_answer.specs.Order.{place_order, name_in, number_in}
use Rattle.mj_members.specs.Declarations.{ClassDecl}
use Rattle.mj_classes.specs.Declarations.{decl}
use Rattle.named_files.specs.Projects.{SourceFile}
use Rattle.profiles.specs.declared.profile.Profile.{Profile}
use Rattle.mj_rules.specs.Sentences.{classes_in}
use Rattle.mj_rules.specs.Tables.{table_of}
use Rattle.mj_rules.specs.FaultLists.{project_faults, class_faults, class_names}

-- ---- lists as sets: each element once, in ascending order

abbrev pub with_element : {X : Type 0} → (X → X → Ordering) → X → List X → List X
with_element compare x [] = x ∷ []
with_element compare x (y ∷ ys) =
    match_ordering (compare x y) (x ∷ y ∷ ys) (y ∷ ys) (y ∷ with_element compare x ys)

abbrev pub set_of : {X : Type 0} → (X → X → Ordering) → List X → List X
set_of compare [] = []
set_of compare (x ∷ xs) = with_element compare x (set_of compare xs)

-- names by their bytes
abbrev pub name_order : Name → Name → Ordering
name_order m n = slice_cmp nat_cmp m n

-- diagnostics by the kind of their place, the name in it, the number in it, then the code
abbrev pub fault_order : Diagnostic → Diagnostic → Ordering
fault_order d e =
    ordering_then (nat_cmp (place_order d.place) (place_order e.place))
    (ordering_then (name_order (name_in d.place) (name_in e.place))
    (ordering_then (nat_cmp (number_in d.place) (number_in e.place))
    (nat_cmp (code_number d.code) (code_number e.code))))

-- ---- answers

abbrev pub class_answer : Profile → List ClassDecl → ClassDecl → ClassAnswerValue
class_answer profile cs k = record {
  name = k.name;
  table = table_of cs k.name;
  faults = set_of fault_order (class_faults profile cs k);
}

-- the first class of each name, in the order of the names
abbrev pub first_classes : List ClassDecl → List ClassDecl
first_classes cs = filter_map (decl cs) (set_of name_order (class_names cs))

-- the answer that the rules give
unfoldable pub rules_of : Profile → List SourceFile → AnswerValue
rules_of profile files = record {
  faults = set_of fault_order (project_faults files);
  classes = map (class_answer profile (classes_in files)) (first_classes (classes_in files));
}
