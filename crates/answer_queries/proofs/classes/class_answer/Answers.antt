use Rattle.std.proofs.Common.{sym, ap, subst, ◌∙◌}
use Rattle.answer_bytes.specs.Storable.{ClassFaultsFit, IsClassStorable}
use Rattle.result_bytes.specs.Parts.{faults_in}
use Rattle.body_questions.specs.Members.{table_in}
use Rattle.answer_queries.proofs.Kept.{class_told, class_storable}
use Rattle.answer_queries.proofs.classes.class_answer.Goals as goal

pub returns-clause-storable : goal.returns-clause-storable
returns-clause-storable c =
    subst IsClassStorable
    (sym (c.new.ensures
    ∙ class_told c.args.name.now c.args.members.now c.args.diags.now c.in_ok-name.name c.in_ok-table.table c.in_ok-faults.faults.items c.in_ok-name.ensures
    (c.in_ok-table.ensures ∙ ap table_in c.value.ensures.value) (c.in_ok-faults.ensures ∙ (c.faults.ensures.value ∙ ap faults_in c.value-2.ensures.value))))
    (class_storable c.args.name.now c.args.members.now c.args.diags.now c.value.ensures.kept
    (subst ClassFaultsFit (c.faults.ensures.value ∙ ap faults_in c.value-2.ensures.value) c.faults.ensures.fits))
