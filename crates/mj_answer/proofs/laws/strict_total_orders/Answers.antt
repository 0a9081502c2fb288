use Rattle.mj_answer.proofs.Orders.{places, faults}
use Rattle.mj_answer.proofs.laws.strict_total_orders.Goals as goal

pub returns : goal.returns
returns c = record { places = places; faults = faults }
