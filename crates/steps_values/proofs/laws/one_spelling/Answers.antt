use Rattle.steps_values.proofs.ValueLaws.{one_value}
use Rattle.steps_values.proofs.laws.one_spelling.Goals as goal

pub returns : goal.returns
returns c = one_value
