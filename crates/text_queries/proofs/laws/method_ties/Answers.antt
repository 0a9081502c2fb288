use Rattle.text_queries.proofs.MethodTie as tie
use Rattle.text_queries.proofs.laws.method_ties.Goals as goal

pub returns : goal.returns
returns c = tie.method_ties
