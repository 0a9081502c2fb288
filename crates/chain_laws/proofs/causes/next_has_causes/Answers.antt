use Rattle.chain_laws.proofs.NoNeed.{all_needed, no_need}
use Rattle.chain_laws.proofs.causes.next_has_causes.Goals as goal

pub returns-clause-cause : goal.returns-clause-cause
returns-clause-cause c = no_need

pub returns-clause-told : goal.returns-clause-told
returns-clause-told c = all_needed
