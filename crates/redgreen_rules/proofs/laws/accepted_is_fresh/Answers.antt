use Rattle.redgreen_rules.proofs.Fresh.{fresh, agree, one}
use Rattle.redgreen_rules.proofs.laws.accepted_is_fresh.Goals as goal

pub returns-clause-fresh : goal.returns-clause-fresh
returns-clause-fresh c = fresh

pub returns-clause-inputs : goal.returns-clause-inputs
returns-clause-inputs c = agree

pub returns-clause-one : goal.returns-clause-one
returns-clause-one c = one
