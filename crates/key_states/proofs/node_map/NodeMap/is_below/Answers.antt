use Rattle.item_ids.specs.Inputs.{rank}
use Rattle.key_states.proofs.PendingRules.{above_by_pending, pending_inside}
use Rattle.key_states.proofs.node_map.NodeMap.is_below.Goals as goal

pub returns : goal.returns
returns c =
    let i = c.self.inside in
    let all = above_by_pending i.nodes.entries i.pending.items c.args.w (rank c.args.key.now) c.self.invariant.1 in
    let at = rw c.as_slice.ensures.value at c.are_above.ensures in
    rw (← c.self.view_is) ((λ t. all.0 (at.0 t)), (λ a. at.1 (all.1 a)))

pub are_above-requires : goal.are_above-requires
are_above-requires c = rw c.as_slice.ensures.value (pending_inside c.self.inside.nodes.entries c.self.inside.pending.items c.self.invariant.1)
