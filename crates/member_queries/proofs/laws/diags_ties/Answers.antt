use Rattle.member_queries.proofs.DiagsTie as tie
use Rattle.member_queries.proofs.laws.diags_ties.Goals as goal

pub returns : goal.returns
returns c = tie.diags_ties
