use Rattle.std.proofs.Common.{drop, ◌↔◌}
use Rattle.std.specs.List.{AllByRecursion}
use Rattle.item_ids.specs.Inputs.{rank}
use Rattle.key_states.specs.PendingNodes.{IsAboveAt}
use Rattle.key_states.proofs.node_map.are_above.Given as goal

abbrev pub invariant-loop-at : goal.invariant-loop-at
invariant-loop-at l = AllByRecursion (IsAboveAt l.w (rank l.key) l.nodes.entries) l.pending ↔ AllByRecursion (IsAboveAt l.w (rank l.key) l.nodes.entries) (drop l.at-index l.pending)
