use Rattle.member_queries.proofs.Climbs.{ClimbAt}
use Rattle.member_queries.proofs.supers.ask_chain.Given as goal

abbrev pub invariant-loop : goal.invariant-loop
invariant-loop g l = record {
  at : ClimbAt l.rows l.fn.first l.initial.recorder l.counter l.ascent l.class l.recorder;
  follows : g.D.Reader.follows l.initial.recorder.inner l.recorder.inner;
}
