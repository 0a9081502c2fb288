use Rattle.audit_graph.proofs.PlanRules.{plan_tells}
use Rattle.audit_graph.proofs.laws.plan_tells.Goals as goal

pub returns : goal.returns
returns c = plan_tells
