use Rattle.std.proofs.Common.{map}
use Rattle.redgreen_rules.specs.Sessions.{runs_in}
use Rattle.redgreen_sessions.specs.Views.{session_of}
use Rattle.redgreen_audit.specs.declared.fault.Fault.TheVariants.{Wrong}
use Rattle.redgreen_audit.specs.Refusals.{AuditRefuses}
use Rattle.redgreen_audit.proofs.Complete.{right_none}
use Rattle.redgreen_example.specs.Echoes.{echo_of, IsEcho}
use Rattle.redgreen_example.proofs.EchoRuns.{all_runs, on_two, at_err}
use Rattle.redgreen_example.proofs.echo.audit_echo.Goals as goal

pub returns-clause-fresh : goal.returns-clause-fresh
returns-clause-fresh c = on_two c.audit.result (λ fresh made. fresh echo_of (all_runs _ _ (runs_in (map session_of c.args.chain.now)) made)) c.audit.ensures.fresh c.audit.ensures.made

pub returns-clause-accepts : goal.returns-clause-accepts
returns-clause-accepts c = λ right k n record_fault e.
    right_none echo_of (λ s run t. IsEcho run) (λ s t run made. made) _ _ c.args.chain.now k n record_fault right
    (at_err (AuditRefuses (λ s run t. IsEcho run) _ _ c.args.chain.now) c.audit.result (Wrong k n record_fault) e c.audit.ensures.refused)
