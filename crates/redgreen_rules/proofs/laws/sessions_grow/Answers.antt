use Rattle.redgreen_rules.proofs.Growing.{grows}
use Rattle.redgreen_rules.proofs.laws.sessions_grow.Goals as goal

pub returns : goal.returns
returns c = grows
