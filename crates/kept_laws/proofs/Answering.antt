-- The answer takes of a tree what its file declares.
use Rattle.std.proofs.Common.{◌≡◌, ℕ, zero, suc, Bool, true, false, not, ◌&&◌, ◌||◌, List, [], ◌∷◌, ◌++◌, map, slice_get, Option, Some, None, refl, sym, ap, ap₂, subst, ◌∙◌, if◌then◌else◌}
use Rattle.std.specs.List.{list_any}
use Rattle.std.specs.Ordering.{is_eq}
use Rattle.item_ids.specs.declared.key.Key.{Key}
use Rattle.item_ids.specs.declared.key.Key.TheVariants as keys
use Rattle.item_ids.specs.Keys.{key_cmp}
use Rattle.item_ids.proofs.Apart.{test_same, test_itself}
use Rattle.mj_tree.specs.Trees.{Name, Main, Class, File}
use Rattle.mj_tree.specs.declared.place.Place.TheVariants as places
use Rattle.mj_answer.specs.declared.code.Code.TheVariants.{E101, E102, E103, E104}
use Rattle.mj_answer.specs.declared.diagnostic.Diagnostic.{Diagnostic}
use Rattle.mj_answer.specs.AnswerValues.{ClassAnswerValue}
use Rattle.mj_members.specs.Declarations.{ClassDecl}
use Rattle.mj_classes.specs.Declarations.{number_classes, main_first, classes_of, declared_from}
use Rattle.named_files.specs.Repeats.{repeats}
use Rattle.mj_rules.specs.FaultLists.{fault, when_fault, each_numbered, has_main, file_faults}
use Rattle.mj_rules.specs.FaultLists as lists
use Rattle.body_query.specs.Bounds.{bound}
use Rattle.result_bytes.specs.declared.files.IndexRow.{IndexRow}
use Rattle.result_bytes.specs.declared.value.Value.{Value}
use Rattle.result_bytes.specs.declared.value.Value.TheVariants as values
use Rattle.result_bytes.specs.Parts.{files_in, index_in, tree_in}
use Rattle.recorder.specs.Backed.{is_seen}
use Rattle.recorder.specs.Programs.{Prog, Ret, Ask, runs, asks, each}
use Rattle.answer_queries.specs.Trees.{NamedTree, tree_step}
use Rattle.answer_queries.specs.ProjectFaults.{any_main, files_faults, NamedClass, named_class, named_classes, class_names, repeated_class, repeat_faults, project_faults}
use Rattle.answer_queries.specs.Answer.{class_answer, class_step, answer, classes_steps, answer_steps}
use Rattle.keeping.specs.Kept.{AlikeBut}
use Rattle.kept_laws.specs.Parts.{Declared, declared_in, DeclareSame}
use Rattle.kept_laws.specs.Laws.{AnswerKept}
use Rattle.keeping.proofs.Kept.{kept_law}
use Rattle.kept_laws.proofs.Taking.{Takes, runs_same, asks_same}

-- ---- the diagnostics of a project, by what its files declare

abbrev View : Type 0
View = Name × Option Declared

abbrev view : NamedTree → View
view f = (f.0, declared_in f.1)

abbrev has_main_by : Option Declared → Bool
has_main_by None = false
has_main_by (Some d) = d.has_main

main_is : (o : Option File) → has_main o ≡ has_main_by (declared_in o)
main_is None = refl
main_is (Some f) = refl

abbrev file_by : Bool → Name → Option Declared → List Diagnostic
file_by before name None = fault (places.File name) E101 ∷ []
file_by before name (Some d) = when_fault (before && d.has_main) (places.File name) E103

file_is : (before : Bool) (name : Name) (o : Option File) → file_faults before name o ≡ file_by before name (declared_in o)
file_is before name None = refl
file_is before name (Some f) = refl

abbrev files_by : Bool → List View → List Diagnostic
files_by before [] = []
files_by before (w ∷ ws) = file_by before w.0 w.1 ++ files_by (before || has_main_by w.1) ws

files_is : (before : Bool) (fs : List NamedTree) → files_faults before fs ≡ files_by before (map view fs)
files_is before [] = refl
files_is before (f ∷ fs) =
    ap₂ (λ (x y : List Diagnostic). x ++ y) (file_is before f.0 f.1) (files_is (before || has_main f.1) fs)
    ∙ ap (λ (h : Bool). file_by before f.0 (declared_in f.1) ++ files_by (before || h) (map view fs)) (main_is f.1)

abbrev any_by : List View → Bool
any_by ws = list_any (λ (w : View). has_main_by w.1) ws

any_is : (fs : List NamedTree) → any_main fs ≡ any_by (map view fs)
any_is [] = refl
any_is (f ∷ fs) = ap₂ (λ (x y : Bool). x || y) (main_is f.1) (any_is fs)

-- the classes of a file by their names
abbrev numbered : ℕ → ℕ → List Name → List NamedClass
numbered file n [] = []
numbered file n (c ∷ cs) = record { file = file; number = n; name = c } ∷ numbered file (suc n) cs

number_is : (file n : ℕ) (cs : List Class) → named_classes (number_classes file n cs) ≡ numbered file n (lists.class_names (number_classes 0 n cs))
number_is file n [] = refl
number_is file n (c ∷ cs) = ap (λ (rest : List NamedClass). record { file = file; number = n; name = c.name } ∷ rest) (number_is file (suc n) cs)

first_is : (file : ℕ) (o : Option Main) (cs : List Class) → named_classes (main_first file o cs) ≡ numbered file 0 (lists.class_names (main_first 0 o cs))
first_is file None cs = number_is file 0 cs
first_is file (Some m) cs = ap (λ (rest : List NamedClass). record { file = file; number = 0; name = m.name } ∷ rest) (number_is file 1 cs)

abbrev declared_by : ℕ → List View → List NamedClass
declared_by file [] = []
declared_by file ((x, None) ∷ ws) = declared_by (suc file) ws
declared_by file ((x, Some d) ∷ ws) = numbered file 0 d.names ++ declared_by (suc file) ws

named_both : (xs ys : List ClassDecl) → named_classes (xs ++ ys) ≡ named_classes xs ++ named_classes ys
named_both [] ys = refl
named_both (x ∷ xs) ys = ap (λ (rest : List NamedClass). named_class x ∷ rest) (named_both xs ys)

declared_is : (file : ℕ) (fs : List NamedTree) → named_classes (declared_from file (map (λ (f : NamedTree). f.1) fs)) ≡ declared_by file (map view fs)
declared_is file [] = refl
declared_is file ((x, None) ∷ fs) = declared_is (suc file) fs
declared_is file ((x, Some f) ∷ fs) =
    named_both (classes_of file f) (declared_from (suc file) (map (λ (f : NamedTree). f.1) fs))
    ∙ ap₂ (λ (x y : List NamedClass). x ++ y) (first_is file f.main f.classes) (declared_is (suc file) fs)

abbrev repeated_by : Option View → ℕ → List Diagnostic
repeated_by None number = []
repeated_by (Some w) number = fault (places.ClassOf w.0 (bound number)) E104 ∷ []

repeated_is : (fs : List NamedTree) (i number : ℕ) → repeated_class (slice_get fs i) number ≡ repeated_by (slice_get (map view fs) i) number
repeated_is [] i number = refl
repeated_is (f ∷ fs) zero number = refl
repeated_is (f ∷ fs) (suc i) number = repeated_is fs i number

abbrev repeat_by : List View → ℕ → Bool → NamedClass → List Diagnostic
repeat_by ws n repeated c = if repeated then repeated_by (slice_get ws c.file) c.number else []

repeat_is : (fs : List NamedTree) (n : ℕ) (repeated : Bool) (c : NamedClass) → repeat_faults fs n repeated c ≡ repeat_by (map view fs) n repeated c
repeat_is fs n repeated c = ap (λ (x : List Diagnostic). if repeated then x else []) (repeated_is fs c.file c.number)

abbrev classes_by : (ℕ → Bool → NamedClass → List Diagnostic) → List NamedClass → List Diagnostic
classes_by faults classes = each_numbered faults 0 classes (repeats (class_names classes))

abbrev project_by : List View → List Diagnostic
project_by ws = files_by false ws ++ (classes_by (repeat_by ws) (declared_by 0 ws) ++ when_fault (not (any_by ws)) places.Project E102)

project_is : (fs : List NamedTree) → project_faults fs ≡ project_by (map view fs)
unfolding project_faults
project_is fs =
    ap₂ (λ (x y : List Diagnostic). x ++ y) (files_is false fs)
    (ap₂ (λ (x y : List Diagnostic). x ++ y)
    (ap₂ classes_by (λ i n r c. repeat_is fs n r c i) (declared_is 0 fs))
    (ap (λ (h : Bool). when_fault (not h) places.Project E102) (any_is fs)))

view_push : (fs : List NamedTree) (f : NamedTree) → map view (fs ++ f ∷ []) ≡ map view fs ++ view f ∷ []
view_push [] f = refl
view_push (x ∷ fs) f = ap (λ (ws : List View). view x ∷ ws) (view_push fs f)

-- ---- the answer

abbrev last : List Diagnostic → Prog
last faults = classes_steps faults (λ a. Ret (values.Answer a))

abbrev whole : List NamedTree → Prog
whole files = last (project_faults files)

module _ (f : Name) (a b : Value) where
  classes_take : (rows : List IndexRow) (faults : List Diagnostic) (done : List ClassAnswerValue) → Takes (keys.Tree f) a b (each class_step rows done (λ classes. Ret (values.Answer (answer faults classes))))
  unfolding Takes each
  classes_take [] faults done = tt
  classes_take (row ∷ rows) faults done = (
    (λ (e : keys.Members row.class ≡ keys.Tree f). absurd cc),
    λ v. ((λ (e : keys.Diags row.class ≡ keys.Tree f). absurd cc), λ w. classes_take rows faults (done ++ class_answer row.class v w ∷ [])),
  )

  last_takes : (faults : List Diagnostic) → Takes (keys.Tree f) a b (last faults)
  unfolding Takes
  last_takes faults = ((λ (e : keys.Index ≡ keys.Tree f). absurd cc), λ v. classes_take (index_in v) faults [])

module _ (f : Name) (a b : Value) (same : DeclareSame a b) (m n : Key → Value) (alike : AlikeBut (keys.Tree f) m n) (there : m (keys.Tree f) ≡ a) (here : n (keys.Tree f) ≡ b) where
  record Both (p q : Prog) : Type 0 where
    gives : runs p m ≡ runs q n
    reads : (seen : List Key) → asks p m seen ≡ asks q n seen

  both_ask : (x : Key) (g h : Value → Prog) → Both (g (m x)) (h (n x)) → Both (Ask x g) (Ask x h)
  unfolding runs asks
  both_ask x g h r = record {
    gives = r.gives;
    reads = λ seen. ap₂ (λ (old new : List Key). if is_seen seen x then old else x ∷ new) (r.reads seen) (r.reads (seen ++ x ∷ []));
  }

  tree_same : (x : Name) → declared_in (tree_in (m (keys.Tree x))) ≡ declared_in (tree_in (n (keys.Tree x)))
  tree_same x = go (is_eq (key_cmp (keys.Tree x) (keys.Tree f))) refl
    where
      go : (t : Bool) → is_eq (key_cmp (keys.Tree x) (keys.Tree f)) ≡ t → declared_in (tree_in (m (keys.Tree x))) ≡ declared_in (tree_in (n (keys.Tree x)))
      go true e =
          let at = test_same (keys.Tree x) (keys.Tree f) e in
          ap (λ (y : Key). declared_in (tree_in (m y))) at ∙ ap (λ (w : Value). declared_in (tree_in w)) there ∙ same
          ∙ ap (λ (w : Value). declared_in (tree_in w)) (sym here) ∙ ap (λ (y : Key). declared_in (tree_in (n y))) (sym at)
      go false e = ap (λ (w : Value). declared_in (tree_in w)) (alike (keys.Tree x) (λ at. let no : false ≡ true = sym e ∙ test_itself (keys.Tree x) (keys.Tree f) at in absurd cc))

  ends : (fs gs : List NamedTree) → map view fs ≡ map view gs → Both (whole fs) (whole gs)
  ends fs gs e =
      let faults : project_faults fs ≡ project_faults gs = project_is fs ∙ ap project_by e ∙ sym (project_is gs) in
      subst (λ (x : List Diagnostic). Both (whole fs) (last x)) faults (record {
        gives = runs_same (keys.Tree f) a b m n alike there here (whole fs) (last_takes f a b (project_faults fs));
        reads = λ seen. asks_same (keys.Tree f) a b m n alike there here (whole fs) (last_takes f a b (project_faults fs)) seen;
      })

  loop : (xs : List Name) (fs gs : List NamedTree) → map view fs ≡ map view gs → Both (each tree_step xs fs whole) (each tree_step xs gs whole)
  unfolding each
  loop [] fs gs e = ends fs gs e
  loop (x ∷ xs) fs gs e =
      both_ask (keys.Tree x) (λ v. each tree_step xs (fs ++ (x, tree_in v) ∷ []) whole) (λ v. each tree_step xs (gs ++ (x, tree_in v) ∷ []) whole)
      (loop xs (fs ++ (x, tree_in (m (keys.Tree x))) ∷ []) (gs ++ (x, tree_in (n (keys.Tree x))) ∷ [])
      (view_push fs (x, tree_in (m (keys.Tree x)))
      ∙ ap₂ (λ (ws : List View) (o : Option Declared). ws ++ (x, o) ∷ []) e (tree_same x)
      ∙ sym (view_push gs (x, tree_in (n (keys.Tree x))))))

  all : Both (answer_steps Ret) (answer_steps Ret)
  all =
      let e : m keys.Files ≡ n keys.Files = alike keys.Files (λ (no : keys.Files ≡ keys.Tree f). absurd cc) in
      both_ask keys.Files (λ v. each tree_step (files_in v) [] whole) (λ v. each tree_step (files_in v) [] whole)
      (subst (λ (w : Value). Both (each tree_step (files_in (m keys.Files)) [] whole) (each tree_step (files_in w) [] whole)) e (loop (files_in (m keys.Files)) [] [] refl))

pub answer_kept : AnswerKept
answer_kept f a b v same = kept_law (answer_steps Ret) (keys.Tree f) a b v (λ m n alike there here e.
    let r = all f a b same m n alike there here in (sym r.gives ∙ e, sym (r.reads [])))
