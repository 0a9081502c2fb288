use Rattle.std.proofs.Common.{◌≡◌, ℕ, List, ◌++◌, take}
use Rattle.std.specs.List.{flat_map}
use Rattle.sessions.specs.Spelling.{record_bytes}
use Rattle.session_file.proofs.writing.put_records.Given as goal

abbrev pub invariant-loop-item : goal.invariant-loop-item
invariant-loop-item g l = record {
  holds : (front : List ℕ) → g.W.Sink.holds l.initial.sink front → g.W.Sink.holds l.sink (front ++ flat_map (record_bytes l.form) (take l.item-index l.records));
  failed : g.W.Sink.failed l.sink ≡ g.W.Sink.failed l.initial.sink;
}
