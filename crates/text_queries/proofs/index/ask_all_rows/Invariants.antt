use Rattle.std.proofs.Common.{[]}
use Rattle.recorder.specs.Programs.{LoopAt}
use Rattle.text_queries.specs.Index.{rows_step}
use Rattle.text_queries.proofs.index.ask_all_rows.Given as goal

abbrev pub invariant-loop-file : goal.invariant-loop-file
invariant-loop-file g l = record {
  at : LoopAt rows_step l.files [] l.initial.recorder l.file-index l.rows.items l.recorder;
  follows : g.D.Reader.follows l.initial.recorder.inner l.recorder.inner;
}
