use Rattle.audit_graph.proofs.StepRules.{step_is_right}
use Rattle.audit_graph.proofs.laws.step_is_right.Goals as goal

pub returns : goal.returns
returns c = step_is_right
