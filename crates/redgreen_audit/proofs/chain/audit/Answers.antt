use Rattle.std.proofs.Common.{map}
use Rattle.std.proofs.lemmas.Result.{on_ok_weaker}
use Rattle.redgreen_rules.proofs.Fresh.{fresh, agree}
use Rattle.redgreen_sessions.specs.Views.{session_of}
use Rattle.redgreen_audit.proofs.chain.audit.Goals as goal

pub returns-clause-fresh : goal.returns-clause-fresh
returns-clause-fresh g c = on_ok_weaker c.audit_all.result (λ p prog_of. fresh prog_of (map session_of c.args.chain.now) p) c.audit_all.ensures.passed

pub returns-clause-inputs : goal.returns-clause-inputs
returns-clause-inputs g c = on_ok_weaker c.audit_all.result (agree (map session_of c.args.chain.now)) c.audit_all.ensures.passed
