use Rattle.audit_graph.proofs.StepRules.{front_is_meant}
use Rattle.audit_graph.proofs.laws.front_is_meant.Goals as goal

pub returns : goal.returns
returns c = front_is_meant
