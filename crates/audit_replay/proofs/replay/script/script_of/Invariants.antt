use Rattle.std.proofs.Common.{◌≡◌, map, take}
use Rattle.std.specs.List.{AllByRecursion}
use Rattle.recorder.specs.Backed.{keys}
use Rattle.sessions.specs.Sessions.{key_at, entry_at}
use Rattle.audit_graph.specs.Replays.{IsHeld}
use Rattle.audit_replay.proofs.replay.script.script_of.Given as goal

abbrev pub invariant-loop-edge : goal.invariant-loop-edge
invariant-loop-edge l = record {
  edges : keys l.script ≡ map (key_at l.session.records) (take l.edge-index l.item.edges);
  held : AllByRecursion (IsHeld (entry_at l.session)) l.script;
}
