use Rattle.std.proofs.Common.{[]}
use Rattle.recorder.specs.Programs.{LoopAt}
use Rattle.member_queries.specs.Members.{link_step}
use Rattle.member_queries.proofs.members.ask_links.Given as goal

abbrev pub invariant-loop-class : goal.invariant-loop-class
invariant-loop-class g l = record {
  at : LoopAt link_step l.classes [] l.initial.recorder l.class-index l.links.items l.recorder;
  follows : g.D.Reader.follows l.initial.recorder.inner l.recorder.inner;
}
