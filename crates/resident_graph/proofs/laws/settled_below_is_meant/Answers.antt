use Rattle.resident_graph.proofs.Settled.{meant_below}
use Rattle.resident_graph.proofs.laws.settled_below_is_meant.Goals as goal

pub returns : goal.returns
returns c = meant_below
