use Rattle.std.proofs.Common.{rules, []}
use Rattle.recorder.specs.Programs.{GivesUp, each}
use Rattle.recorder.proofs.Rules.{loop_more, loop_up}
use Rattle.text_queries.specs.Index.{rows_step}
use Rattle.text_queries.proofs.index.ask_all_rows.Goals as goal

pub loop-file-preserved : goal.loop-file-preserved
loop-file-preserved g c = record {
  at = loop_more rows_step c.args.files.now [] c.args.recorder.now _ _ _ _ _ _ c.loop-file.invariant.at c.in_ok-ask_rows.ensures.ok c.loop-file-test.true c.file-item.is;
  follows = g.met.D.Reader.transitive _ _ _ c.loop-file.invariant.follows c.in_ok-ask_rows.ensures.follows;
}

pub returns-in_err-ask_rows-clause-err : goal.returns-in_err-ask_rows-clause-err
returns-in_err-ask_rows-clause-err g c =
    let h : GivesUp (each rows_step c.args.files.now []) c.args.recorder.now c.in_err-ask_rows.field-0.0 c.ask_rows.new.recorder =
    loop_up rows_step c.args.files.now [] c.args.recorder.now _ _ _ _ _ _ c.loop-file.invariant.at c.in_err-ask_rows.ensures.err c.loop-file-test.true c.file-item.is in
    search rules
