use Rattle.redgreen_table.proofs.Legally.{sound}
use Rattle.redgreen_table.proofs.laws.histories_pass.Goals as goal

pub returns : goal.returns
returns c = sound
