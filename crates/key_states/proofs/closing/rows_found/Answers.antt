use Rattle.key_states.proofs.ReachRules.{reached_too}
use Rattle.key_states.proofs.closing.rows_found.Goals as goal

pub returns-clause-rows : goal.returns-clause-rows
returns-clause-rows c = record {
  keys = c.in_ok-keys.keys.keys;
  ordered = c.in_ok-rows_of.ensures;
  found = c.in_ok-keys.ensures.found;
  count = c.in_ok-keys.ensures.count;
}

pub returns-clause-reached : goal.returns-clause-reached
returns-clause-reached c = reached_too _ _ _ _ c.in_ok-keys.ensures.reached c.in_ok-rows_of.ensures.same
