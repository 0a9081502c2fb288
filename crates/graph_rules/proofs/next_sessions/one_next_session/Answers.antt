use Rattle.std.proofs.Common.{ap}
use Rattle.graph_rules.proofs.OneSession.{one_next}
use Rattle.sessions.specs.Spelling.{file_of}
use Rattle.graph_rules.proofs.next_sessions.one_next_session.Goals as goal

pub returns-clause-session : goal.returns-clause-session
returns-clause-session c = one_next

pub returns-clause-file : goal.returns-clause-file
returns-clause-file c queries terms past p a b h k = ap file_of (one_next queries terms past p a b h k)
