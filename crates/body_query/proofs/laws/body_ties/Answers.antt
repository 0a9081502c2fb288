use Rattle.body_query.proofs.Ties.{body_ties}
use Rattle.body_query.proofs.laws.body_ties.Goals as goal

pub returns : goal.returns
returns c = body_ties
