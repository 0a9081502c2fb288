use Rattle.key_states.proofs.node_map.NodeMap.put.Goals as goal

pub invariant_of-self : goal.invariant_of-self
invariant_of-self c = (c.put_standing.ensures.apart c.self.invariant.0, c.put_standing.ensures.pending)
