use Rattle.std.proofs.Common.{◌≡◌, take, map, length}
use Rattle.sessions.specs.Sessions.{key_at}
use Rattle.audit_graph.proofs.greens.are_same.Given as goal

abbrev pub invariant-loop-i : goal.invariant-loop-i
invariant-loop-i l = record {
  as_long : length l.old ≡ length l.edges;
  same : map (key_at l.past.records) (take l.i l.old) ≡ map (key_at l.session.records) (take l.i l.edges);
}
