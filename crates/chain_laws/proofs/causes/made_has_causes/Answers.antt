use Rattle.chain_laws.proofs.Made.{all_made_needed, made_needed}
use Rattle.chain_laws.proofs.causes.made_has_causes.Goals as goal

pub returns-clause-cause : goal.returns-clause-cause
returns-clause-cause c = made_needed

pub returns-clause-told : goal.returns-clause-told
returns-clause-told c = all_made_needed
