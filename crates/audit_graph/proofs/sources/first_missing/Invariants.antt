use Rattle.std.proofs.Common.{take}
use Rattle.std.specs.List.{AllByRecursion}
use Rattle.sessions.specs.Sessions.{entry_at}
use Rattle.audit_graph.specs.Sources.{HasBytes}
use Rattle.audit_graph.proofs.sources.first_missing.Given as goal

abbrev pub invariant-loop-f : goal.invariant-loop-f
invariant-loop-f l = AllByRecursion (HasBytes (entry_at l.session)) (take l.f l.sources)
