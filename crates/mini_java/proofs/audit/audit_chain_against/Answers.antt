use Rattle.std.specs.Arc.{arc_value}
use Rattle.std.proofs.lemmas.Result.{IfOk-weaker, IfErr-weaker}
use Rattle.mini_java.proofs.Headline.{chain_accepted_against, chain_refused_against, is_of_the_rules}
use Rattle.mini_java.proofs.audit.audit_chain_against.Goals as goal

pub returns-clause-accepted : goal.returns-clause-accepted
returns-clause-accepted c = IfOk-weaker c.audit_against.result _ _
    (λ a known. chain_accepted_against _ _ a.profile c.args.project.now (arc_value a.answer) a.sessions a.runs _ known c.new-runner.ensures)
    c.audit_against.ensures.accepted

pub returns-clause-headline : goal.returns-clause-headline
returns-clause-headline c = IfOk-weaker c.audit_against.result _ _
    (λ a known ss f apart. is_of_the_rules c.answer_laws.ensures a.profile c.args.project.now (arc_value a.answer) (known ss f apart))
    c.audit_against.ensures.means

pub returns-clause-refused : goal.returns-clause-refused
returns-clause-refused c = IfErr-weaker c.audit_against.result _ _ (chain_refused_against _ _ _ c.new-runner.ensures c.args.project.now) c.audit_against.ensures.refused
