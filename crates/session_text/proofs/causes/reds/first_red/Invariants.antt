use Rattle.std.proofs.Common.{◌≡◌, Some, None, map, take}
use Rattle.std.specs.Prelude.{find}
use Rattle.sessions.specs.Sessions.{key_at}
use Rattle.session_text.specs.Causes.{is_red}
use Rattle.session_text.proofs.causes.reds.first_red.Given as goal

abbrev pub invariant-loop-edge : goal.invariant-loop-edge
invariant-loop-edge l = find (is_red (Some l.past) l.session) (map (key_at l.past.records) (take l.edge-index l.edges)) ≡ None
