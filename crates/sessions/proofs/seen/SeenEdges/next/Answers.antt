use Rattle.sessions.proofs.EdgeLaws.{unseen_push}
use Rattle.sessions.proofs.seen.SeenEdges.next.Goals as goal

pub returns-clause-unseen : goal.returns-clause-unseen
returns-clause-unseen c = unseen_push c.self.inside.last.items c.push.new.self.items c.in_ok-push.ensures.items c.self.invariant
