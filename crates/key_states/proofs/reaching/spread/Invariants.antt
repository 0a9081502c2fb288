use Rattle.std.proofs.Common.{◌≡◌, ◌≤◌, false, length}
use Rattle.key_states.specs.Nodes.{state_of_nodes}
use Rattle.key_states.specs.Reached.{Spreads, AreFound}
use Rattle.key_states.proofs.reaching.spread.Given as goal

abbrev pub invariant-loop-i : goal.invariant-loop-i
invariant-loop-i l = Spreads l.inputs (state_of_nodes l.inputs l.nodes false) l.keys.keys l.i
    × AreFound (state_of_nodes l.inputs l.nodes false) l.keys.keys l.found.items
    × (length l.found.items ≡ l.i)
    × (l.i ≤ length l.keys.keys)
