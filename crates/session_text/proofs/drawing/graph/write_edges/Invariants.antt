use Rattle.std.proofs.Common.{◌≡◌, ◌++◌, take, flat_map, string_bytes}
use Rattle.session_text.specs.SessionGraph.{edge_line}
use Rattle.session_text.proofs.drawing.graph.write_edges.Given as goal

abbrev pub invariant-loop-edge : goal.invariant-loop-edge
invariant-loop-edge l = string_bytes l.text ≡ string_bytes l.initial.text ++ flat_map (edge_line l.i) (take l.edge-index l.edges)
