use Rattle.sessions.specs.Sessions.{session_in}
use Rattle.commands.proofs.Answered.{made_over, next_by_rules, only_memory}
use Rattle.commands.proofs.next.next_session.Goals as goal

pub returns-clause-made : goal.returns-clause-made
returns-clause-made g c = rw c.session_of.ensures.same
    (made_over c.answer_laws.ensures c.args.terms (session_in c.args.past) c.args.project.now c.in-Ok.workers c.run_session_as.result
    c.run_session_as.ensures.gives c.run_session_as.ensures.next (rw c.session_of.ensures.same at c.session_of.ensures.session))

pub returns-clause-next : goal.returns-clause-next
returns-clause-next g c = rw c.session_of.ensures.same
    (next_by_rules c.answer_laws.ensures c.args.terms (session_in c.args.past) c.args.project.now c.in-Ok.workers c.run_session_as.result c.run_session_as.ensures.next)

pub returns-clause-memory : goal.returns-clause-memory
returns-clause-memory g c = rw c.session_of.ensures.same
    (only_memory c.args.terms (session_in c.args.past) c.args.project.now c.in-Ok.workers c.run_session_as.result c.in-Ok.ensures c.requires.room c.run_session_as.ensures.gives)
