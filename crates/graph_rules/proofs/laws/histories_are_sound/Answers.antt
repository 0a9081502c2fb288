use Rattle.graph_rules.proofs.Keeping.{sound_history}
use Rattle.graph_rules.proofs.laws.histories_are_sound.Goals as goal

pub returns : goal.returns
returns c = sound_history
