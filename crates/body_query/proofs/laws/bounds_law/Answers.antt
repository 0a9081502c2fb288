use Rattle.body_query.proofs.Bounds.{bounds_law}
use Rattle.body_query.proofs.laws.bounds_law.Goals as goal

pub returns : goal.returns
returns c = bounds_law
