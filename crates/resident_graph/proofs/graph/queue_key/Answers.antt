use Rattle.resident_graph.proofs.Keep.{keeps_more}
use Rattle.resident_graph.proofs.graph.queue_key.Goals as goal

pub returns-clause-keeps : goal.returns-clause-keeps
returns-clause-keeps g c = keeps_more _ _ _ _ _ _ _ _ c.requires _ _ c.queue_place.ensures.len c.queue_place.ensures.more c.queue_place.ensures.queue
