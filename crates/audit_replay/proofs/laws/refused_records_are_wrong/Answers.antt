use Rattle.audit_graph.proofs.StepRules.{before_lower}
use Rattle.audit_replay.proofs.RefusalRules.{other_read, unread_edges, other_result}
use Rattle.audit_replay.proofs.laws.refused_records_are_wrong.Goals as goal

pub returns-clause-other_read : goal.returns-clause-other_read
returns-clause-other_read c = λ queries laws files old new k n i h. other_read queries laws c.ranks_in_order.ensures.lesser (λ k q e b low. before_lower k q e b (c.ranks_in_order.ensures.lesser e q low)) files old new k n i h

pub returns-clause-unread_edges : goal.returns-clause-unread_edges
returns-clause-unread_edges c = λ queries laws files old new k n h. unread_edges queries laws c.ranks_in_order.ensures.lesser (λ k q e b low. before_lower k q e b (c.ranks_in_order.ensures.lesser e q low)) files old new k n h

pub returns-clause-other_result : goal.returns-clause-other_result
returns-clause-other_result c = λ queries laws files old new k n h. other_result queries laws c.ranks_in_order.ensures.lesser (λ k q e b low. before_lower k q e b (c.ranks_in_order.ensures.lesser e q low)) files old new k n h
