use Rattle.text_queries.proofs.HeaderTie as tie
use Rattle.text_queries.proofs.laws.header_ties.Goals as goal

pub returns : goal.returns
returns c = tie.header_ties
