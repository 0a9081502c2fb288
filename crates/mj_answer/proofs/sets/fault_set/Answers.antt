use Rattle.mj_answer.specs.Order.{Before}
use Rattle.mj_answer.proofs.Compared.{ascends, fault_less, fault_equal}
use Rattle.mj_answer.proofs.sets.fault_set.Goals as goal

pub returns-clause-ascending : goal.returns-clause-ascending
returns-clause-ascending c = ascends _ Before fault_less _ c.ascending.ensures.ascending

pub ascending-requires : goal.ascending-requires
ascending-requires c = fault_equal
