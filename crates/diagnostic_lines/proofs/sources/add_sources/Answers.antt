use Rattle.std.proofs.lemmas.List.{take_all}
use Rattle.diagnostic_lines.proofs.MoreFiles.{texts_more, trees_more}
use Rattle.diagnostic_lines.proofs.sources.add_sources.Goals as goal

pub loop-file-preserved : goal.loop-file-preserved
loop-file-preserved c =
    let files = c.args.files.now in
    let at = c.loop-file.file-index in
    record {
      texts = texts_more files at c.file-item.result c.loop-file-test.true c.file-item.is _ _ c.loop-file.invariant.texts c.in_ok-room.ensures.texts;
      trees = trees_more files at c.file-item.result c.loop-file-test.true c.file-item.is _ _ c.loop-file.invariant.trees c.in_ok-room.ensures.trees;
    }

pub returns-clause-texts : goal.returns-clause-texts
returns-clause-texts c =
    let all = take_all c.loop-file.file-index c.args.files.now c.loop-file-test.false in
    rw all at c.loop-file.invariant.texts

pub returns-clause-trees : goal.returns-clause-trees
returns-clause-trees c =
    let all = take_all c.loop-file.file-index c.args.files.now c.loop-file-test.false in
    rw all at c.loop-file.invariant.trees
