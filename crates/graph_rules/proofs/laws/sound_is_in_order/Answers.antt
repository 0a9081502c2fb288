use Rattle.graph_rules.proofs.Keeping.{in_order}
use Rattle.graph_rules.proofs.laws.sound_is_in_order.Goals as goal

pub returns : goal.returns
returns c = λ mean reads over p s graph sound. in_order mean reads over p graph s sound
