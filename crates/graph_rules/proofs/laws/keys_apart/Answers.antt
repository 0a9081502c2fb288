use Rattle.graph_rules.proofs.KeyRules.{same_is, is_same}
use Rattle.graph_rules.proofs.laws.keys_apart.Goals as goal

pub returns : goal.returns
returns c = λ a b. (same_is a b, is_same a b)
