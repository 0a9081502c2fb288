use Rattle.std.proofs.Common.{[]}
use Rattle.recorder.specs.Programs.{LoopAt}
use Rattle.answer_queries.specs.CheckClass.{field_type_step}
use Rattle.answer_queries.proofs.fields.ask_fields.Given as goal

abbrev pub invariant-loop-field : goal.invariant-loop-field
invariant-loop-field g l = record {
  at : LoopAt field_type_step l.fields [] l.initial.recorder l.field-index l.flags.items l.recorder;
  follows : g.D.Reader.follows l.initial.recorder.inner l.recorder.inner;
}
