use Rattle.query_laws.proofs.Declared.{declaration_law}
use Rattle.query_laws.proofs.laws.declaration_laws.Goals as goal

pub returns : goal.returns
returns c = declaration_law
