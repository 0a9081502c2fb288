use Rattle.std.proofs.Common.{true, List, Bool, ap, ◌∙◌, set}
use Rattle.sessions.proofs.EdgeLaws.{seen_set}
use Rattle.sessions.proofs.seen.SeenEdges.admit.Goals as goal

pub returns-clause-seen : goal.returns-clause-seen
returns-clause-seen c = seen_set c.self.inside.last.items c.see.new.last.items c.args.edge c.see.ensures ∙ ap (λ (seen : List Bool). set seen c.args.edge true) c.self.view_is
