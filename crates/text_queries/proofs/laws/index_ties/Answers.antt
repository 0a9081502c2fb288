use Rattle.text_queries.proofs.IndexTie as tie
use Rattle.text_queries.proofs.laws.index_ties.Goals as goal

pub returns : goal.returns
returns c = tie.index_ties
