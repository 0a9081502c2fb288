use Rattle.graph_rules.proofs.KeyRules.{above, no_input}
use Rattle.graph_rules.proofs.laws.inputs_apart.Goals as goal

pub returns : goal.returns
returns c = λ p q. (above p q, no_input p q)
