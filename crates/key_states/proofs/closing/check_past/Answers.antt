use Rattle.std.specs.Arc.{arc_value}
use Rattle.graph_rules.proofs.SessionRules.{session_graph}
use Rattle.key_states.proofs.closing.check_past.Goals as goal

pub returns-in-Some : goal.returns-in-Some
returns-in-Some c = rw c.in-Some.is (session_graph (arc_value c.in-Some.past) (rw c.deref.ensures at c.records-records.ensures.session))
