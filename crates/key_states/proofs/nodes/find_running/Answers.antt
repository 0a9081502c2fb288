use Rattle.std.proofs.Common.{sym, ◌∙◌, true≢false}
use Rattle.key_states.proofs.nodes.find_running.Goals as goal

pub returns-then-is_running-clause-running : goal.returns-then-is_running-clause-running
returns-then-is_running-clause-running c = c.in_ok-at.ensures.stands ∙ c.is_running.ensures.0 c.if-is_running.true

pub returns-else-is_running-clause-none : goal.returns-else-is_running-clause-none
returns-else-is_running-clause-none c = λ e. true≢false (sym (c.is_running.ensures.1 (sym c.in_ok-at.ensures.stands ∙ e)) ∙ c.if-is_running.false)
