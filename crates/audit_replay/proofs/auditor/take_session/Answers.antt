use Rattle.std.proofs.Common.{inl, inr, refl}
use Rattle.audit_replay.proofs.SumRules.{takes, read_refuses, session_refuses, memory_refuses, session_counted, runs_all}
use Rattle.audit_replay.proofs.auditor.take_session.Goals as goal

pub returns-in-Err-clause-refused : goal.returns-in-Err-clause-refused
returns-in-Err-clause-refused g c = λ ss bytes a held.
    read_refuses g.R.Runner.queries c.args.kept.now ss a bytes (g.R.Runner.log c.args.runner.now) c.in-Err.fault (rw c.session.ensures at (c.in-Err.ensures.refused bytes held))

pub returns-in-Err-audit_session-clause-refused : goal.returns-in-Err-audit_session-clause-refused
returns-in-Err-audit_session-clause-refused g c = λ ss bytes a held.
    session_refuses g.R.Runner.queries c.args.kept.now ss a bytes c.in-Ok.session c.in-Ok.ensures.session (rw c.session.ensures at c.in-Ok.ensures.taken) (c.in-Ok.ensures.whole bytes held)
    (g.R.Runner.log c.args.runner.now) (g.R.Runner.log c.audit_session.new.runner) c.in-Err-audit_session.fault
    _ c.session-2.ensures c.in-Err-audit_session.ensures.gives c.in-Err-audit_session.ensures.log

pub returns-in-Ok-of-clause-taken : goal.returns-in-Ok-of-clause-taken
returns-in-Ok-of-clause-taken g c = (
  c.in-Ok.session,
  takes g.R.Runner.queries g.met.R.Runner.laws c.args.kept.now _ c.in-Ok.session c.in-Ok.ensures.session (rw c.session.ensures at c.in-Ok.ensures.taken) c.in-Ok-audit_session.runs
      _ c.session-2.ensures c.in-Ok-audit_session.ensures.gives _ _ _ _
      c.in-Ok.ensures.given c.in-Ok.ensures.whole c.in-Ok-audit_session.ensures.sources.0 c.in-Ok-audit_session.ensures.log refl c.saturating_add.ensures c.in-Ok-of.ensures,
)

pub returns-in-Err-audit_session-clause-counted : goal.returns-in-Err-audit_session-clause-counted
returns-in-Err-audit_session-clause-counted g c = λ ss a.
    session_counted g.R.Runner.queries c.args.kept.now ss a c.in-Ok.session (rw c.session.ensures at c.in-Ok.ensures.taken) c.in-Err-audit_session.fault
    _ c.session-2.ensures c.in-Err-audit_session.ensures.gives _ _ c.in-Ok.ensures.counted

pub returns-in-Err-of-clause-refused : goal.returns-in-Err-of-clause-refused
returns-in-Err-of-clause-refused g c = λ ss bytes a held.
    memory_refuses g.R.Runner.queries c.args.kept.now ss a bytes c.in-Ok.session c.in-Ok.ensures.session (rw c.session.ensures at c.in-Ok.ensures.taken) (c.in-Ok.ensures.whole bytes held)
    (g.R.Runner.log c.args.runner.now) (g.R.Runner.log c.audit_session.new.runner) c.in-Ok-audit_session.ensures.log

pub returns-in-Err-clause-log : goal.returns-in-Err-clause-log
returns-in-Err-clause-log g c = inl refl

pub returns-in-Err-audit_session-clause-log : goal.returns-in-Err-audit_session-clause-log
returns-in-Err-audit_session-clause-log g c = inr (c.in-Ok.session, c.in-Ok.ensures.session, c.in-Err-audit_session.ensures.log)

pub returns-in-Err-of-clause-log : goal.returns-in-Err-of-clause-log
returns-in-Err-of-clause-log g c = inr (c.in-Ok.session, c.in-Ok.ensures.session, runs_all c.in-Ok.session _ _ c.in-Ok-audit_session.ensures.log)
