use Rattle.tree_skipping.proofs.Skipped.{method_passes, skips}
use Rattle.tree_skipping.proofs.methods.skip_method.Goals as goal

pub returns : goal.returns
returns c = skips c.skip_method_parts.result _ _ (method_passes c.args.bytes.now) c.skip_method_parts.ensures
