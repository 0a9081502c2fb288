use Rattle.audit_replay.proofs.OnceFiles.{none_refused, none_against}
use Rattle.audit_replay.proofs.laws.accepted_are_not_refused.Goals as goal

pub returns-clause-alone : goal.returns-clause-alone
returns-clause-alone c = none_refused

pub returns-clause-against : goal.returns-clause-against
returns-clause-against c = none_against
