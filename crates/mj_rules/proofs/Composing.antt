-- The parts of an answer make the answer of the rules.
use Rattle.std.proofs.Common.{◌≡◌, List, map, Some, All, Contains, sym, ap, subst, ◌∙◌, ◌↔◌}
use Rattle.mj_tree.specs.Trees.{Name}
use Rattle.mj_answer.specs.declared.diagnostic.Diagnostic.{Diagnostic}
use Rattle.mj_answer.specs.AnswerValues.{ClassAnswerValue, AnswerValue}
use Rattle.ordered_names.specs.Order.{NameBefore, IsAscendingBy}
use Rattle.mj_answer.specs.Order.{IsAscending}
use Rattle.mj_members.specs.Declarations.{ClassDecl}
use Rattle.mj_classes.specs.Declarations.{decl}
use Rattle.mj_classes.specs.Laws.{ChainLaws, MemberLaws}
use Rattle.named_files.specs.Projects.{SourceFile}
use Rattle.profiles.specs.declared.profile.Profile.{Profile}
use Rattle.mj_rules.specs.Sentences.{classes_in}
use Rattle.mj_rules.specs.Tables.{table_of}
use Rattle.mj_rules.specs.Rules.{IsTableOf, IsAnswerFor, AreClassAnswers, Rules}
use Rattle.mj_rules.specs.FaultLists.{fault, project_faults, NamesFitIn, class_faults, class_names}
use Rattle.mj_rules.specs.Laws.{SentenceLaw, BodyFaultLaws}
use Rattle.named_files.proofs.Listed.{contains_at, place_of, map_at}
use Rattle.mj_rules.proofs.ProjectFaultLaws.{project_fault_law}
use Rattle.mj_rules.proofs.ClassFaultLaws.{class_fault_law}
use Rattle.mj_rules.proofs.TableLaws.{table_law, ascend_by_names}

-- lists with the same faults
abbrev pub SameFaults : List Diagnostic → List Diagnostic → Type 0
SameFaults ds es = (d : Diagnostic) → Contains ds d ↔ Contains es d

pub class_answer : ChainLaws → MemberLaws → BodyFaultLaws → (profile : Profile) (cs : List ClassDecl) → NamesFitIn cs → (k : ClassDecl) (answer : ClassAnswerValue) → decl cs k.name ≡ Some k
    → answer.name ≡ k.name → answer.table ≡ table_of cs k.name → IsAscending answer.faults → SameFaults answer.faults (class_faults profile cs k) → IsAnswerFor profile cs answer
class_answer chains members bodies profile cs fit k answer first name table ascending same = record {
  class = k;
  first = ap (decl cs) name ∙ first;
  table = subst (λ (n : Name). IsTableOf cs n answer.table) (sym name) (subst (IsTableOf cs k.name) (sym table) (table_law members cs k.name));
  faults = record {
    ascending = ascending;
    exactly = λ place code. (
      λ h. (class_fault_law chains bodies profile cs fit k first place code).0 ((same (fault place code)).0 h),
      λ r. (same (fault place code)).1 ((class_fault_law chains bodies profile cs fit k first place code).1 r),
    );
  };
}

-- answers in the order of these names, which are those of the declared classes
pub class_answers : (profile : Profile) (cs : List ClassDecl) (answers : List ClassAnswerValue) (names : List Name) → IsAscendingBy NameBefore names → ((n : Name) → Contains names n ↔ Contains (class_names cs) n)
    → map (λ (c : ClassAnswerValue). c.name) answers ≡ names → All (IsAnswerFor profile cs) answers → AreClassAnswers profile cs answers
class_answers profile cs answers names up listed named each = record {
  ascending = ascend_by_names (λ (c : ClassAnswerValue). c.name) answers (subst (IsAscendingBy NameBefore) (sym named) up);
  each = each;
  all = λ k h.
      let p = place_of cs k h in
      let stands = contains_at (class_names cs) p.0 k.name (map_at (λ (j : ClassDecl). j.name) cs p.0 k p.1) in
      subst (λ (ns : List Name). Contains ns k.name) (sym named) ((listed k.name).1 stands);
}

pub project_answer : SentenceLaw → (profile : Profile) (files : List SourceFile) (answer : AnswerValue) → IsAscending answer.faults → SameFaults answer.faults (project_faults files) → AreClassAnswers profile (classes_in files) answer.classes → Rules profile files answer
project_answer sentences profile files answer ascending same classes = record {
  faults = record {
    ascending = ascending;
    exactly = λ place code. (
      λ h. (project_fault_law sentences files place code).0 ((same (fault place code)).0 h),
      λ r. (same (fault place code)).1 ((project_fault_law sentences files place code).1 r),
    );
  };
  classes = classes;
}
