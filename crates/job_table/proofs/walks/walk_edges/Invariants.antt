use Rattle.std.proofs.Common.{◌≡◌, map, drop, false}
use Rattle.std.specs.Prelude.{Some}
use Rattle.sessions.specs.Sessions.{key_at, past_entry}
use Rattle.graph_rules.specs.Steps.{walk}
use Rattle.key_states.specs.Nodes.{state_of_nodes}
use Rattle.job_table.proofs.WalkRules.{behind}
use Rattle.job_table.proofs.walks.walk_edges.Given as goal

abbrev pub invariant-loop-i : goal.invariant-loop-i
invariant-loop-i l =
    walk (past_entry (Some l.past)) (state_of_nodes l.inputs l.nodes false) (map (key_at l.past.records) l.edges)
    ≡ behind l.i (walk (past_entry (Some l.past)) (state_of_nodes l.inputs l.nodes false) (map (key_at l.past.records) (drop l.i l.edges)))
