use Rattle.audit_graph.proofs.StepRules.{before_lower}
use Rattle.audit_graph.proofs.laws.before_has_lower.Goals as goal

pub returns : goal.returns
returns c = λ k q e before low. before_lower k q e before (c.ranks_in_order.ensures.lesser e q low)
