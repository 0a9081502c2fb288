use Rattle.std.proofs.Common.{take}
use Rattle.sessions.proofs.EdgeLaws.{SoFar}
use Rattle.sessions.proofs.checks.first_bad_edge.Given as goal

abbrev pub invariant-loop-j : goal.invariant-loop-j
invariant-loop-j l = SoFar l.seen l.front l.key (take l.j l.edges)
