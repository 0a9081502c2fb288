use Rattle.std.proofs.Common.{sym, ◌∙◌, true≢false}
use Rattle.key_states.proofs.nodes.find_claimed.Goals as goal

pub returns-then-is_claimed-clause-claimed : goal.returns-then-is_claimed-clause-claimed
returns-then-is_claimed-clause-claimed c = c.in_ok-at.ensures.stands ∙ c.is_claimed.ensures.0 c.if-is_claimed.true

pub returns-else-is_claimed-clause-none : goal.returns-else-is_claimed-clause-none
returns-else-is_claimed-clause-none c = λ e. true≢false (sym (c.is_claimed.ensures.1 (sym c.in_ok-at.ensures.stands ∙ e)) ∙ c.if-is_claimed.false)
