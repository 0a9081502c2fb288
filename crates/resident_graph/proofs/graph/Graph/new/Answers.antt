use Rattle.resident_graph.proofs.Same.{keeps_along, keeps_nothing}
use Rattle.resident_graph.proofs.graph.Graph.new.Goals as goal

pub returns : goal.returns
returns c = λ prog_of p.
    let e = c.empty_graph.ensures in
    keeps_along prog_of p _ _ _ _ _ _ _ _ _ _ _ _ e.keys e.values e.edges e.readers e.queued e.queue (keeps_nothing prog_of p)
