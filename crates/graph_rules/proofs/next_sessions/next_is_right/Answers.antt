use Rattle.graph_rules.proofs.NextRight.{next_right}
use Rattle.graph_rules.proofs.next_sessions.next_is_right.Goals as goal

pub returns : goal.returns
returns c = next_right
