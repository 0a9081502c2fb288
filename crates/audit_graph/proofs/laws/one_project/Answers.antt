use Rattle.audit_graph.proofs.SourceRules.{one_project}
use Rattle.audit_graph.proofs.laws.one_project.Goals as goal

pub returns : goal.returns
returns c = one_project
