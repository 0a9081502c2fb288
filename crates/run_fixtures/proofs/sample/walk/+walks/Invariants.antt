use Rattle.recorder.specs.Programs.{LoopAt}
use Rattle.run_fixtures.specs.Programs.{part_step}
use Rattle.run_fixtures.specs.View.{view_of}
use Rattle.run_fixtures.proofs.sample.walk.+walks.Given as goal

abbrev pub invariant-walk_parts-loop-phrase : goal.invariant-walk_parts-loop-phrase
invariant-walk_parts-loop-phrase g l = record {
  at : LoopAt (λ e. part_step (view_of e)) l.parts.items l.fn.first l.initial.recorder l.phrase-index l.found l.recorder;
  follows : g.D.Reader.follows l.initial.recorder.inner l.recorder.inner;
}
