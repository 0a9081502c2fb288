use Rattle.keeping.proofs.Following.{meant_law}
use Rattle.keeping.proofs.laws.keys_follow.Goals as goal

pub returns : goal.returns
returns c = meant_law
