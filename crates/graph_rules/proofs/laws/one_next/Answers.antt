use Rattle.graph_rules.proofs.OneNext.{next_is_one}
use Rattle.graph_rules.proofs.laws.one_next.Goals as goal

pub returns : goal.returns
returns c = next_is_one
