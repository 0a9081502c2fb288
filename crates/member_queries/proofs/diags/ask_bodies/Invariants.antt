use Rattle.answer_bytes.specs.Storable.{AreClassFaults}
use Rattle.recorder.specs.Programs.{LoopAt}
use Rattle.member_queries.specs.Diags.{body_step}
use Rattle.member_queries.proofs.diags.ask_bodies.Given as goal

abbrev pub invariant-loop-body : goal.invariant-loop-body
invariant-loop-body g l = record {
  at : LoopAt (body_step l.class) l.bodies l.start l.initial.recorder l.body-index l.faults.items l.recorder;
  places : AreClassFaults l.faults.items;
  follows : g.D.Reader.follows l.initial.recorder.inner l.recorder.inner;
}
