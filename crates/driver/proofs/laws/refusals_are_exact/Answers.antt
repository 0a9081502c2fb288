use Rattle.driver.proofs.NextRules.{no_crew, full_chain, memory_alone, last_number}
use Rattle.driver.proofs.laws.refusals_are_exact.Goals as goal

pub returns-clause-workers : goal.returns-clause-workers
returns-clause-workers c = no_crew

pub returns-clause-full : goal.returns-clause-full
returns-clause-full c = full_chain

pub returns-clause-memory : goal.returns-clause-memory
returns-clause-memory c = memory_alone

pub returns-clause-last : goal.returns-clause-last
returns-clause-last c = last_number
