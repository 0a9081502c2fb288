use Rattle.graph_rules.proofs.Orders.{orderly}
use Rattle.graph_rules.proofs.laws.histories_are_orderly.Goals as goal

pub returns : goal.returns
returns c = orderly
