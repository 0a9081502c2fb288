use Rattle.tree_skipping.proofs.Skipped.{top_stmt_passes, skips}
use Rattle.tree_skipping.proofs.statements.skip_top_stmt.Goals as goal

pub returns : goal.returns
returns c = skips c.skip_stmt.result _ _ (top_stmt_passes c.args.bytes.now) c.skip_stmt.ensures
