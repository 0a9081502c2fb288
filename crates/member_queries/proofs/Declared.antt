-- The classes of a project: a main class has no methods, and the first method of a name is found by it.
use Rattle.std.proofs.Common.{◌≡◌, ℕ, suc, Bool, true, false, cond, List, [], ◌∷◌, ◌++◌, map, Option, Some, None, find, refl, bytes_eq, ◌||◌}
use Rattle.std.specs.List.{AllByRecursion}
use Rattle.std.proofs.lemmas.Option.{none-some}
use Rattle.mj_tree.specs.Trees.{Name, Statement, Method, Main, Class, File}
use Rattle.mj_members.specs.Declarations.{ClassDecl}
use Rattle.mj_classes.specs.Declarations.{number_classes, main_first, classes_of, declared_from, decl}
use Rattle.mj_classes.specs.Chains.{is_in}
use Rattle.mj_classes.proofs.Tables.{all_append}
use Rattle.mj_rules.specs.Sentences.{classes_in, trees_of}
use Rattle.mj_rules.proofs.OneAnswer.{decl_stands}
use Rattle.recorder.specs.Projects.{Project}
use Rattle.recorder.proofs.Recorded.{all_at}

abbrev HasNoMethods : ClassDecl → Type 0
HasNoMethods k = (s : Statement) → k.main ≡ Some s → k.methods ≡ []

number_classes_have : (file number : ℕ) (cs : List Class) → AllByRecursion HasNoMethods (number_classes file number cs)
number_classes_have file number [] = tt
number_classes_have file number (c ∷ cs) = (λ s e. absurd (none-some s e), number_classes_have file (suc number) cs)

main_first_have : (file : ℕ) (o : Option Main) (cs : List Class) → AllByRecursion HasNoMethods (main_first file o cs)
main_first_have file None cs = number_classes_have file 0 cs
main_first_have file (Some m) cs = (λ s e. refl, number_classes_have file 1 cs)

declared_have : (file : ℕ) (files : List (Option File)) → AllByRecursion HasNoMethods (declared_from file files)
declared_have file [] = tt
declared_have file (None ∷ files) = declared_have (suc file) files
declared_have file (Some f ∷ files) =
    all_append HasNoMethods (classes_of file f) (declared_from (suc file) files) (main_first_have file f.main f.classes) (declared_have (suc file) files)

pub main_has_none : (p : Project) (c : Name) (k : ClassDecl) → decl (classes_in p) c ≡ Some k → HasNoMethods k
main_has_none p c k e = all_at HasNoMethods (classes_in p) k (decl_stands (classes_in p) c k e) (declared_have 0 (trees_of p))

-- the first of a name stands behind those of other names
pub found_behind : (done rest : List Method) (m : Method) → is_in (map (λ (f : Method). f.name) done) m.name ≡ false → bytes_eq m.name m.name ≡ true → find (λ (f : Method). bytes_eq f.name m.name) (done ++ (m ∷ rest)) ≡ Some m
found_behind [] rest m e same = rw same refl
found_behind (d ∷ done) rest m e same = by_test (bytes_eq d.name m.name) refl (λ h. found_behind done rest m h same) e
  where
    by_test : (b : Bool) → bytes_eq d.name m.name ≡ b → (is_in (map (λ (f : Method). f.name) done) m.name ≡ false → find (λ (f : Method). bytes_eq f.name m.name) (done ++ (m ∷ rest)) ≡ Some m)
        → (b || is_in (map (λ (f : Method). f.name) done) m.name) ≡ false → cond (bytes_eq d.name m.name) (Some d) (find (λ (f : Method). bytes_eq f.name m.name) (done ++ (m ∷ rest))) ≡ Some m
    by_test true t behind h = absurd cc
    by_test false t behind h = rw t (behind h)
