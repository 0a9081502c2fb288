use Rattle.result_bytes.proofs.ValueLaws.{one_value}
use Rattle.result_bytes.proofs.laws.one_spelling.Goals as goal

pub returns : goal.returns
returns c = one_value
