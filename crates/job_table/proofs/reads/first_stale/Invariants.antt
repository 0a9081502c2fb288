use Rattle.std.proofs.Common.{◌+◌, ℕ, drop, false}
use Rattle.graph_rules.specs.Steps.{AreHeld}
use Rattle.key_states.specs.Nodes.{state_of_nodes}
use Rattle.job_table.specs.Calls.{IsFirstStale}
use Rattle.job_table.proofs.reads.first_stale.Given as goal

abbrev pub invariant-loop-i : goal.invariant-loop-i
invariant-loop-i l = record {
  all : AreHeld (state_of_nodes l.inputs l.nodes false) (drop l.i l.reads) → AreHeld (state_of_nodes l.inputs l.nodes false) l.reads;
  first : (j : ℕ) → IsFirstStale (state_of_nodes l.inputs l.nodes false) (drop l.i l.reads) j → IsFirstStale (state_of_nodes l.inputs l.nodes false) l.reads (l.i + j);
}
