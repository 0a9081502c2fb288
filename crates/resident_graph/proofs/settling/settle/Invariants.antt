use Rattle.resident_graph.specs.Graphs.{KeepsGraph}
use Rattle.resident_graph.proofs.settling.settle.Given as goal

abbrev pub invariant-loop : goal.invariant-loop
invariant-loop g l = KeepsGraph (g.R.Keeping.programs l.profile) l.inputs l.graph
