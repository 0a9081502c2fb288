use Rattle.driver.proofs.NextRules.{is_next, is_the_next}
use Rattle.driver.proofs.laws.sessions_are_next.Goals as goal

pub returns-clause-made : goal.returns-clause-made
returns-clause-made c = is_next

pub returns-clause-next : goal.returns-clause-next
returns-clause-next c = λ queries laws terms past p history s next project past_is session events. is_the_next queries laws terms past p history s project past_is session events next
