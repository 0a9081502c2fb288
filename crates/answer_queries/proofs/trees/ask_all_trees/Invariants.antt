use Rattle.std.proofs.Common.{[]}
use Rattle.recorder.specs.Programs.{LoopAt}
use Rattle.answer_queries.specs.Trees.{named_trees, tree_step}
use Rattle.answer_queries.proofs.trees.ask_all_trees.Given as goal

abbrev pub invariant-loop-name : goal.invariant-loop-name
invariant-loop-name g l = record {
  at : LoopAt tree_step l.names [] l.initial.recorder l.name-index (named_trees l.files.items) l.recorder;
  follows : g.D.Reader.follows l.initial.recorder.inner l.recorder.inner;
}
