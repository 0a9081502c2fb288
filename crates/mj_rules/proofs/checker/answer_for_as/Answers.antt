use Rattle.std.proofs.Common.{◌≡◌, ◌∙◌, List, sym, ap, subst}
use Rattle.mj_answer.specs.declared.diagnostic.Diagnostic.{Diagnostic}
use Rattle.mj_answer.specs.AnswerValues.{AnswerValue}
use Rattle.mj_answer.specs.Order.{IsAscending}
use Rattle.mj_members.specs.Declarations.{ClassDecl}
use Rattle.mj_classes.specs.Declarations.{declarations}
use Rattle.mj_classes.specs.Index.{declared_in}
use Rattle.mj_rules.specs.Sentences.{classes_in}
use Rattle.mj_rules.specs.FaultLists.{NamesFitIn, project_faults}
use Rattle.mj_rules.specs.Rules.{AreClassAnswers}
use Rattle.mj_rules.proofs.Composing.{SameFaults, project_answer}
use Rattle.mj_rules.proofs.LowerLaws.{sentence_law}
use Rattle.mj_rules.proofs.Declared.{names_fit_in}
use Rattle.mj_rules.proofs.checker.answer_for_as.Goals as goal

pub class_answers-requires : goal.class_answers-requires
class_answers-requires c =
    let files = c.args.project.now in
    let declared : declared_in c.in_ok-tables.tables ≡ classes_in files = ap (λ d. declared_in d) c.in_ok-tables.ensures ∙ (c.in_ok-declarations.ensures ∙ ap declarations c.requires) in
    subst NamesFitIn (sym declared) (names_fit_in files)

pub returns : goal.returns
returns c =
    let files = c.args.project.now in
    let declared : declared_in c.in_ok-tables.tables ≡ classes_in files = ap (λ d. declared_in d) c.in_ok-tables.ensures ∙ (c.in_ok-declarations.ensures ∙ ap declarations c.requires) in
    let faults : c.new-3.result.faults ≡ c.fault_set.result.items = ap (λ (a : AnswerValue). a.faults) c.new-3.ensures in
    let classes : c.new-3.result.classes ≡ c.in_ok-classes.classes.items = ap (λ (a : AnswerValue). a.classes) c.new-3.ensures in
    let same : SameFaults c.fault_set.result.items (project_faults files) = subst (λ (ds : List Diagnostic). SameFaults c.fault_set.result.items ds) c.in_ok-faults.ensures c.fault_set.ensures.same in
    let answers : AreClassAnswers c.args.profile (classes_in files) c.in_ok-classes.classes.items = subst (λ (cs : List ClassDecl). AreClassAnswers c.args.profile cs c.in_ok-classes.classes.items) declared c.in_ok-classes.ensures in
    project_answer sentence_law c.args.profile files c.new-3.result (subst IsAscending (sym faults) c.fault_set.ensures.ascending) (subst (λ (ds : List Diagnostic). SameFaults ds (project_faults files)) (sym faults) same)
    (subst (AreClassAnswers c.args.profile (classes_in files)) (sym classes) answers)
