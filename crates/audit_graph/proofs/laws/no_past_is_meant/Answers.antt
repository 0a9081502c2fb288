use Rattle.audit_graph.proofs.StepRules.{none_graph, none_meant, none_apart}
use Rattle.audit_graph.proofs.laws.no_past_is_meant.Goals as goal

pub returns-clause-graph : goal.returns-clause-graph
returns-clause-graph c = none_graph

pub returns-clause-meant : goal.returns-clause-meant
returns-clause-meant c = none_meant

pub returns-clause-apart : goal.returns-clause-apart
returns-clause-apart c = none_apart
