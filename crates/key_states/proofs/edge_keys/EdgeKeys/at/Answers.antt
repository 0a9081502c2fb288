use Rattle.std.specs.Arc.{arc_value}
use Rattle.std.proofs.lemmas.List.{length-map}
use Rattle.sessions.specs.Sessions.{key_at}
use Rattle.key_states.specs.KeptKeys.{edges_at}
use Rattle.key_states.proofs.edge_keys.EdgeKeys.at.Goals as goal

pub own_key-requires : goal.own_key-requires
own_key-requires c = rw c.as_slice-own.ensures.value (rw (← c.self.view_is, c.in-Own.is) at c.requires)

pub returns-in-Own : goal.returns-in-Own
returns-in-Own c = rw (← c.self.view_is, c.in-Own.is) (rw c.as_slice-own.ensures.value at c.own_key.ensures)

pub edges_of-edges-requires : goal.edges_of-edges-requires
edges_of-edges-requires c = rw c.deref.ensures (rw c.in-Past.is at c.self.invariant)

pub past_key-requires-clause-place : goal.past_key-requires-clause-place
past_key-requires-clause-place c =
    let rs = (arc_value c.in-Past.past).records in
    let lt = rw (← c.self.view_is, c.in-Past.is, length-map (edges_at rs c.in-Past.at) (key_at rs)) at c.requires in
    rw (c.edges_of-edges.ensures.edges, c.deref.ensures) lt

pub past_key-requires-clause-inside : goal.past_key-requires-clause-inside
past_key-requires-clause-inside c = rw c.deref-in-Past.ensures (rw c.deref.ensures at c.edges_of-edges.ensures.inside)

pub returns-in-Past : goal.returns-in-Past
returns-in-Past c = rw (← c.self.view_is, c.in-Past.is) (rw (c.edges_of-edges.ensures.edges, c.deref.ensures, c.deref-in-Past.ensures) at c.past_key.ensures)
