use Rattle.graph_rules.proofs.NextRules.{closed_next, closed_as}
use Rattle.graph_rules.proofs.laws.closed_is_next.Goals as goal

pub returns-clause-made : goal.returns-clause-made
returns-clause-made c = λ mean reads laws over p s entries project known sound closed. closed_next mean reads laws over p s entries project known sound closed

pub returns-clause-next : goal.returns-clause-next
returns-clause-next c = λ mean reads laws over p s entries next project known sound closed. closed_as mean reads laws over p s entries project known sound closed next
