use Rattle.std.proofs.Common.{◌≡◌, ◌≤◌, take, length}
use Rattle.recorder.specs.Backed.{keys}
use Rattle.audit_graph.specs.Greens.{keys_at}
use Rattle.audit_replay.proofs.replay.compare.first_other.Given as goal

abbrev pub invariant-loop-i : goal.invariant-loop-i
invariant-loop-i l = record {
  within : l.i ≤ length (keys_at l.session.records l.edges);
  same : take l.i (keys l.reads) ≡ take l.i (keys_at l.session.records l.edges);
}
