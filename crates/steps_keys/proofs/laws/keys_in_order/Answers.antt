use Rattle.steps_keys.specs.Keys.{key_total}
use Rattle.steps_keys.proofs.Apart.{key_exact, key_itself, key_tests}
use Rattle.steps_keys.proofs.laws.keys_in_order.Goals as goal

pub returns-clause-total : goal.returns-clause-total
returns-clause-total c = key_total

pub returns-clause-exact : goal.returns-clause-exact
returns-clause-exact c = λ a b. (key_exact a b, key_itself a b)

pub returns-clause-same : goal.returns-clause-same
returns-clause-same c = key_tests
