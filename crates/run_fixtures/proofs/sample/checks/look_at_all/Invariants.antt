use Rattle.std.proofs.Common.{false}
use Rattle.recorder.specs.Programs.{LoopAt}
use Rattle.run_fixtures.specs.Programs.{main_step}
use Rattle.run_fixtures.proofs.sample.checks.look_at_all.Given as goal

abbrev pub invariant-loop-name : goal.invariant-loop-name
invariant-loop-name g l = record {
  at : LoopAt main_step l.names false l.initial.recorder l.name-index l.found l.recorder;
  follows : g.D.Reader.follows l.initial.recorder.inner l.recorder.inner;
}
