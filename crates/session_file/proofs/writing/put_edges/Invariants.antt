use Rattle.std.proofs.Common.{◌≡◌, ℕ, List, ◌++◌, take}
use Rattle.std.specs.List.{flat_map}
use Rattle.byte_readers.specs.Spelling.{eight}
use Rattle.session_file.proofs.writing.put_edges.Given as goal

abbrev pub invariant-loop-edge : goal.invariant-loop-edge
invariant-loop-edge g l = record {
  holds : (front : List ℕ) → g.W.Sink.holds l.initial.sink front → g.W.Sink.holds l.sink (front ++ flat_map eight (take l.edge-index l.edges));
  failed : g.W.Sink.failed l.sink ≡ g.W.Sink.failed l.initial.sink;
}
