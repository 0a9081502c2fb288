use Rattle.member_queries.proofs.SupersTie as tie
use Rattle.member_queries.proofs.laws.supers_ties.Goals as goal

pub returns : goal.returns
returns c = tie.supers_ties
