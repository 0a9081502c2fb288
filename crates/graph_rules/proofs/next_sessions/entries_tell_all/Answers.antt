use Rattle.graph_rules.proofs.OneSession.{one_session}
use Rattle.graph_rules.proofs.next_sessions.entries_tell_all.Goals as goal

pub returns : goal.returns
returns c a b a_is b_is terms number link same = one_session a b a_is b_is same terms number link
