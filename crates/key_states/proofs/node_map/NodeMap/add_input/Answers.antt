use Rattle.std.specs.Arc.{arc_value}
use Rattle.key_states.proofs.NodeRules.{opened_more, on_ok}
use Rattle.key_states.proofs.node_map.NodeMap.add_input.Goals as goal

pub returns : goal.returns
returns c =
    on_ok c.add_done.result
    (opened_more c.args.inputs.now c.self.inside.nodes.entries c.add_done.new.nodes.entries c.args.key.now (arc_value c.in_ok-shared.shared) _ (rw c.in_ok-shared.ensures c.in-Some-get.ensures) c.none.ensures (rw (← c.self.view_is) at c.requires))
    c.add_done.ensures.ok
