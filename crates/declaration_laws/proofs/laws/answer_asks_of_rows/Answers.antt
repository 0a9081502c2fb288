use Rattle.declaration_laws.proofs.Faults.{answer_law}
use Rattle.declaration_laws.proofs.laws.answer_asks_of_rows.Goals as goal

pub returns : goal.returns
returns c = answer_law
