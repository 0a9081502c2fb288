use Rattle.audit_replay.proofs.ChainRules.{all_right}
use Rattle.audit_replay.proofs.laws.passed_are_right.Goals as goal

pub returns-clause-right : goal.returns-clause-right
returns-clause-right c = λ queries laws sessions each passed apart. (all_right queries laws sessions apart each passed).0

pub returns-clause-meant : goal.returns-clause-meant
returns-clause-meant c = λ queries laws sessions each passed apart. (all_right queries laws sessions apart each passed).1
