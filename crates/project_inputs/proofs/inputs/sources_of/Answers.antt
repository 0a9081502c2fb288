use Rattle.std.proofs.Common.{refl}
use Rattle.project_inputs.proofs.InputRules.{good_name, new_name}
use Rattle.project_inputs.proofs.SealedRules.{source_at, files_more_view}
use Rattle.project_inputs.proofs.inputs.sources_of.Goals as goal

pub add_source-requires-clause-some : goal.add_source-requires-clause-some
add_source-requires-clause-some c = rw c.as_str.ensures.value (good_name c.args.files.now c.requires.project c.loop-at.at c.index-files-at.result c.loop-at-test.true c.index-files-at.is).0

pub add_source-requires-clause-short : goal.add_source-requires-clause-short
add_source-requires-clause-short c = rw c.as_str.ensures.value (good_name c.args.files.now c.requires.project c.loop-at.at c.index-files-at.result c.loop-at-test.true c.index-files-at.is).1

pub add_source-requires-clause-new : goal.add_source-requires-clause-new
add_source-requires-clause-new c =
    rw (c.as_str.ensures.value, c.loop-at.invariant.0) (new_name c.args.files.now c.requires.project c.loop-at.at c.index-files-at.result c.loop-at-test.true c.index-files-at.is)

pub add_source-requires-clause-source : goal.add_source-requires-clause-source
add_source-requires-clause-source c =
    rw (source_at c.args.files.now c.args.sealed.now c.requires.sealed c.loop-at.at c.index-files-at.result c.index-sealed-at.result c.loop-at-test.true c.index-files-at.is c.index-sealed-at.is) refl

pub loop-at-preserved : goal.loop-at-preserved
loop-at-preserved c =
    let source = source_at c.args.files.now c.args.sealed.now c.requires.sealed c.loop-at.at c.index-files-at.result c.index-sealed-at.result c.loop-at-test.true c.index-files-at.is c.index-sealed-at.is in (
      files_more_view c.args.files.now c.loop-at.at c.index-files-at.result c.loop-at-test.true c.index-files-at.is _ _ _ c.in_ok-add_source.ensures.files c.loop-at.invariant.0 (rw (c.as_str.ensures.value, source) refl),
      c.in_ok-add_source.ensures.sources,
    )
