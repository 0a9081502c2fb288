use Rattle.graph_rules.proofs.SessionRules.{session_graph}
use Rattle.graph_rules.proofs.laws.sessions_are_graphs.Goals as goal

pub returns : goal.returns
returns c = session_graph
