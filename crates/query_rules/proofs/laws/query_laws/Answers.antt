use Rattle.query_rules.proofs.Ranks as ranks
use Rattle.query_rules.proofs.laws.query_laws.Goals as goal

pub returns : goal.returns
returns c = ranks.query_laws
