use Rattle.key_states.specs.Nodes.{AreOpened}
use Rattle.key_states.proofs.node_map.NodeMap.of_inputs.Given as goal

abbrev pub invariant-loop-key : goal.invariant-loop-key
invariant-loop-key l = AreOpened l.inputs l.nodes
