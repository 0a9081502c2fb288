use Rattle.text_queries.proofs.TreeTie as tie
use Rattle.text_queries.proofs.laws.tree_ties.Goals as goal

pub returns : goal.returns
returns c = tie.tree_ties
