use Rattle.text_queries.proofs.SigTie as tie
use Rattle.text_queries.proofs.laws.sig_ties.Goals as goal

pub returns : goal.returns
returns c = tie.sig_ties
