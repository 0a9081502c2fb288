use Rattle.std.proofs.Common.{refl}
use Rattle.std.specs.Arc.{arc_value}
use Rattle.std.proofs.lemmas.List.{length-map}
use Rattle.sessions.specs.Sessions.{key_at}
use Rattle.key_states.specs.KeptKeys.{edges_at}
use Rattle.key_states.proofs.edge_keys.EdgeKeys.len.Goals as goal

pub returns-in-Own : goal.returns-in-Own
returns-in-Own c = rw (← c.self.view_is, c.in-Own.is, ← c.as_slice-own.ensures.value) refl

pub edges_of-edges-requires : goal.edges_of-edges-requires
edges_of-edges-requires c = rw c.deref.ensures (rw c.in-Past.is at c.self.invariant)

pub returns-in-Past : goal.returns-in-Past
returns-in-Past c =
    let rs = (arc_value c.in-Past.past).records in
    rw (← c.self.view_is, c.in-Past.is, length-map (edges_at rs c.in-Past.at) (key_at rs), c.edges_of-edges.ensures.edges, c.deref.ensures) refl
