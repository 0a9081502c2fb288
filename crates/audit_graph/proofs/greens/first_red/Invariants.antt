use Rattle.std.proofs.Common.{◌≡◌, take, map}
use Rattle.std.specs.List.{AllByRecursion}
use Rattle.sessions.specs.Sessions.{key_at, entry_at}
use Rattle.audit_graph.specs.Greens.{HasSamePrint}
use Rattle.audit_graph.proofs.greens.first_red.Given as goal

abbrev pub invariant-loop-i : goal.invariant-loop-i
invariant-loop-i l =
    map (key_at l.past.records) l.old ≡ map (key_at l.session.records) l.edges
    → AllByRecursion (HasSamePrint (entry_at l.past) (entry_at l.session)) (take l.i (map (key_at l.session.records) l.edges))
