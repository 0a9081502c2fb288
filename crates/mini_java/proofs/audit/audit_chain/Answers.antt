use Rattle.std.specs.Arc.{arc_value}
use Rattle.std.proofs.lemmas.Result.{IfOk-weaker, IfErr-weaker}
use Rattle.mini_java.proofs.Headline.{accepted_chain, is_of_the_rules, refused_chain}
use Rattle.mini_java.proofs.audit.audit_chain.Goals as goal

pub returns-clause-accepted : goal.returns-clause-accepted
returns-clause-accepted c = IfOk-weaker c.audit.result _ _
    (λ a known. accepted_chain _ _ a.profile known.0 (arc_value a.answer) a.sessions a.runs _ known.1 c.new-runner.ensures)
    c.audit.ensures.accepted

pub returns-clause-headline : goal.returns-clause-headline
returns-clause-headline c = IfOk-weaker c.audit.result _ _
    (λ a known ss p f apart sources. is_of_the_rules c.answer_laws.ensures a.profile p (arc_value a.answer) (known ss p f apart sources))
    c.audit.ensures.means

pub returns-clause-refused : goal.returns-clause-refused
returns-clause-refused c = IfErr-weaker c.audit.result _ _ (refused_chain _ _ _ c.new-runner.ensures) c.audit.ensures.refused
