use Rattle.audit_replay.proofs.OnceFiles.{one_refusal, one_against}
use Rattle.audit_replay.proofs.laws.one_refusal_holds.Goals as goal

pub returns-clause-alone : goal.returns-clause-alone
returns-clause-alone c = one_refusal

pub returns-clause-against : goal.returns-clause-against
returns-clause-against c = one_against
