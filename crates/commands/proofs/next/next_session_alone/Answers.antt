use Rattle.std.proofs.Common.{arith}
use Rattle.sessions.specs.Sessions.{session_in}
use Rattle.commands.proofs.Answered.{made_over, next_by_rules, only_memory}
use Rattle.commands.proofs.next.next_session_alone.Goals as goal

pub returns-clause-made : goal.returns-clause-made
returns-clause-made c = rw c.session_of.ensures.same
    (made_over c.answer_laws.ensures c.args.terms (session_in c.args.past) c.args.project.now 1 c.run_session_alone.result
    c.run_session_alone.ensures.gives c.run_session_alone.ensures.next (rw c.session_of.ensures.same at c.session_of.ensures.session))

pub returns-clause-next : goal.returns-clause-next
returns-clause-next c = rw c.session_of.ensures.same
    (next_by_rules c.answer_laws.ensures c.args.terms (session_in c.args.past) c.args.project.now 1 c.run_session_alone.result c.run_session_alone.ensures.next)

pub returns-clause-memory : goal.returns-clause-memory
returns-clause-memory c = rw c.session_of.ensures.same
    (only_memory c.args.terms (session_in c.args.past) c.args.project.now 1 c.run_session_alone.result (omega arith, omega arith) c.requires.room c.run_session_alone.ensures.gives)
