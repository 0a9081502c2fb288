use Rattle.query_laws.proofs.Demands.{demand_law}
use Rattle.query_laws.proofs.laws.demand_laws.Goals as goal

pub returns : goal.returns
returns c = demand_law
