use Rattle.std.proofs.Common.{[]}
use Rattle.recorder.specs.Programs.{LoopAt}
use Rattle.answer_queries.specs.CheckClass.{override_flag_step}
use Rattle.answer_queries.proofs.overrides.ask_methods.Given as goal

abbrev pub invariant-loop-method : goal.invariant-loop-method
invariant-loop-method g l = record {
  at : LoopAt (override_flag_step l.profile l.own l.other) l.methods [] l.initial.recorder l.method-index l.flags.items l.recorder;
  follows : g.D.Reader.follows l.initial.recorder.inner l.recorder.inner;
}
