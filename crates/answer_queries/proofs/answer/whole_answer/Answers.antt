use Rattle.std.proofs.Common.{List, sym, ap, subst, ◌∙◌}
use Rattle.mj_answer.specs.declared.diagnostic.Diagnostic.{Diagnostic}
use Rattle.mj_answer.specs.AnswerValues.{AnswerValue}
use Rattle.answer_bytes.specs.Storable.{AreProjectFaults}
use Rattle.body_query.proofs.Sets.{same_set}
use Rattle.answer_queries.proofs.ProjectPlaces.{same_places}
use Rattle.answer_queries.proofs.answer.whole_answer.Goals as goal

pub new-requires-2-clause-places : goal.new-requires-2-clause-places
new-requires-2-clause-places c =
    subst (λ (a : AnswerValue). AreProjectFaults a.faults) (sym c.new.ensures)
    (same_places c.args.faults.items c.fault_set.result.items c.fault_set.ensures.same c.requires.places)

pub returns : goal.returns
returns c =
    c.new-2.ensures
    ∙ (c.new.ensures
    ∙ ap (λ (ds : List Diagnostic). record { faults = ds; classes = c.args.classes.items })
    (same_set c.args.faults.items c.fault_set.result.items c.fault_set.ensures.ascending c.fault_set.ensures.same))
