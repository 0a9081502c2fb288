use Rattle.sessions.proofs.EntryRules.{has_lower, has_once}
use Rattle.sessions.proofs.laws.edges_are_below.Goals as goal

pub returns-clause-below : goal.returns-clause-below
returns-clause-below c = λ s session q r has. has_lower s session q r has

pub returns-clause-once : goal.returns-clause-once
returns-clause-once c = λ s session q r has. has_once s session q r has
