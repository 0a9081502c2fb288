use Rattle.query_laws.proofs.Meanings as meanings
use Rattle.query_laws.proofs.laws.mean_laws.Goals as goal

pub returns : goal.returns
returns c = meanings.mean_laws
