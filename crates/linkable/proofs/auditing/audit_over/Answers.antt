use Rattle.std.specs.Arc.{arc_value}
use Rattle.std.proofs.lemmas.Result.{IfOk-weaker}
use Rattle.linkable.proofs.auditing.audit_over.Goals as goal

pub returns-in-Some-clause-headline : goal.returns-in-Some-clause-headline
returns-in-Some-clause-headline c = IfOk-weaker c.audit_chain_against.result _ _
    (λ a known ss p have apart sources. c.accepted_chains_are_the_rules.ensures.headline _ a.profile (arc_value a.answer) a.sessions a.runs known.accepted ss p have apart sources)
    c.audit_chain_against.ensures.accepted
