use Rattle.std.proofs.Common.{rules, []}
use Rattle.recorder.specs.Programs.{GivesUp, each}
use Rattle.recorder.proofs.Rules.{loop_more, loop_up}
use Rattle.answer_queries.specs.Trees.{tree_step}
use Rattle.answer_queries.proofs.trees.ask_all_trees.Goals as goal

pub loop-name-preserved : goal.loop-name-preserved
loop-name-preserved g c = record {
  at = loop_more tree_step c.args.names.now [] c.args.recorder.now _ _ _ _ _ _ c.loop-name.invariant.at c.in_ok-ask_tree.ensures.ok c.loop-name-test.true c.name-item.is;
  follows = g.met.D.Reader.transitive _ _ _ c.loop-name.invariant.follows c.in_ok-ask_tree.ensures.follows;
}

pub returns-in_err-ask_tree-clause-err : goal.returns-in_err-ask_tree-clause-err
returns-in_err-ask_tree-clause-err g c =
    let h : GivesUp (each tree_step c.args.names.now []) c.args.recorder.now c.in_err-ask_tree.field-0.0 c.ask_tree.new.recorder =
    loop_up tree_step c.args.names.now [] c.args.recorder.now _ _ _ _ _ _ c.loop-name.invariant.at c.in_err-ask_tree.ensures.err c.loop-name-test.true c.name-item.is in
    search rules
