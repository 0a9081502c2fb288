use Rattle.member_queries.proofs.MembersTie as tie
use Rattle.member_queries.proofs.laws.members_ties.Goals as goal

pub returns : goal.returns
returns c = tie.members_ties
