-- Only one answer is the one that the rules give.
use Rattle.std.proofs.Common.{◌≡◌, List, map, Some, Contains, sym, ap, ap₂, subst, ◌∙◌}
use Rattle.std.proofs.lemmas.Option.{same_Some}
use Rattle.std.proofs.lemmas.List.Elements.{All-contains}
use Rattle.mj_tree.specs.Trees.{Name}
use Rattle.mj_tree.specs.declared.place.Place.{Place}
use Rattle.mj_answer.specs.declared.code.Code.{Code}
use Rattle.mj_answer.specs.declared.diagnostic.Diagnostic.{Diagnostic}
use Rattle.mj_answer.specs.declared.table.FieldRow.{FieldRow}
use Rattle.mj_answer.specs.AnswerValues.{MethodRowValue, ClassTableValue, ClassAnswerValue, AnswerValue}
use Rattle.ordered_names.specs.Order.{NameBefore}
use Rattle.mj_answer.specs.Order.{Before}
use Rattle.ordered_names.proofs.Orders.{names}
use Rattle.mj_answer.proofs.Orders.{faults}
use Rattle.ordered_names.proofs.Alike.{one_list_by}
use Rattle.mj_members.specs.Declarations.{ClassDecl}
use Rattle.mj_classes.specs.Declarations.{decl}
use Rattle.mj_classes.proofs.Climb.{decl_name}
use Rattle.named_files.specs.Projects.{SourceFile}
use Rattle.profiles.specs.declared.profile.Profile.{Profile}
use Rattle.mj_rules.specs.Sentences.{classes_in}
use Rattle.mj_rules.specs.ClassFaults.{FaultOfClass}
use Rattle.mj_rules.specs.Rules.{AreTheFaults, IsTableOf, IsAnswerFor, Rules}
use Rattle.named_files.proofs.Listed.{contains_at, place_of, at_map}
use Rattle.mj_rules.proofs.RowLemmas.{found_stands}

-- one list has just these diagnostics
pub one_fault_list : (Fault : Place → Code → Type 0) (ds es : List Diagnostic) → AreTheFaults Fault ds → AreTheFaults Fault es → ds ≡ es
one_fault_list Fault ds es a b =
    one_list_by Diagnostic Diagnostic (λ d. d) Before faults ds es a.ascending b.ascending
    (λ d. (λ h. (b.exactly d.place d.code).1 ((a.exactly d.place d.code).0 h), λ h. (a.exactly d.place d.code).1 ((b.exactly d.place d.code).0 h)))

-- a class has one table
pub one_table : (cs : List ClassDecl) (c : Name) (t u : ClassTableValue) → IsTableOf cs c t → IsTableOf cs c u → t ≡ u
one_table cs c t u a b =
    let fields = one_list_by FieldRow Name (λ row. row.name) NameBefore names t.fields u.fields a.fields_ascend b.fields_ascend
    (λ row. (λ h. (b.fields row).1 ((a.fields row).0 h), λ h. (a.fields row).1 ((b.fields row).0 h))) in
    let methods = one_list_by MethodRowValue Name (λ row. row.name) NameBefore names t.methods u.methods a.methods_ascend b.methods_ascend
    (λ row. (λ h. (b.methods row).1 ((a.methods row).0 h), λ h. (a.methods row).1 ((b.methods row).0 h))) in
    let build : List FieldRow → List MethodRowValue → ClassTableValue = λ fs ms. record { fields = fs; methods = ms } in
    ap₂ build fields methods

one_class : (profile : Profile) (cs : List ClassDecl) (x y : ClassAnswerValue) → IsAnswerFor profile cs x → IsAnswerFor profile cs y → x.name ≡ y.name → x ≡ y
one_class profile cs x y a b same =
    let class = same_Some a.class b.class (sym a.first ∙ (ap (decl cs) same ∙ b.first)) in
    let table = one_table cs y.name x.table y.table (subst (λ (n : Name). IsTableOf cs n x.table) same a.table) b.table in
    let listed = one_fault_list (FaultOfClass profile cs b.class) x.faults y.faults (subst (λ (k : ClassDecl). AreTheFaults (FaultOfClass profile cs k) x.faults) class a.faults) b.faults in
    let build : Name → ClassTableValue → List Diagnostic → ClassAnswerValue = λ n t ds. record { name = n; table = t; faults = ds } in
    ap (λ (n : Name). build n x.table x.faults) same ∙ ap₂ (build y.name) table listed

-- the class of a name is one of them
pub decl_stands : (cs : List ClassDecl) (c : Name) (k : ClassDecl) → decl cs c ≡ Some k → Contains cs k
unfolding decl
decl_stands cs c k e = (found_stands _ cs k e).0

module _ (profile : Profile) (files : List SourceFile) where
  other_has : (a b : AnswerValue) → Rules profile files a → Rules profile files b → (x : ClassAnswerValue) → Contains a.classes x → Contains b.classes x
  other_has a b ra rb x h =
      let is = All-contains (IsAnswerFor profile (classes_in files)) a.classes x ra.classes.each h in
      let named = rb.classes.all is.class (decl_stands (classes_in files) x.name is.class is.first) in
      let p = place_of (map (λ (c : ClassAnswerValue). c.name) b.classes) is.class.name named in
      let y = at_map (λ (c : ClassAnswerValue). c.name) b.classes p.0 is.class.name p.1 in
      let stands = contains_at b.classes p.0 y.0 y.1 in
      let same : x.name ≡ y.0.name = sym (decl_name (classes_in files) x.name is.class is.first) ∙ sym y.2 in
      subst (Contains b.classes) (sym (one_class profile (classes_in files) x y.0 is (All-contains (IsAnswerFor profile (classes_in files)) b.classes y.0 rb.classes.each stands) same)) stands

  pub one_answer : (a b : AnswerValue) → Rules profile files a → Rules profile files b → a ≡ b
  one_answer a b ra rb =
      let listed = one_fault_list _ a.faults b.faults ra.faults rb.faults in
      let classes = one_list_by ClassAnswerValue Name (λ c. c.name) NameBefore names a.classes b.classes ra.classes.ascending rb.classes.ascending
      (λ x. (other_has a b ra rb x, other_has b a rb ra x)) in
      let build : List Diagnostic → List ClassAnswerValue → AnswerValue = λ ds cs. record { faults = ds; classes = cs } in
      ap₂ build listed classes
