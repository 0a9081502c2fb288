use Rattle.std.proofs.Common.{◌∙◌}
use Rattle.tree_bytes.proofs.Bodies.{kept, spelled}
use Rattle.tree_bytes.proofs.body.Body.copy.Goals as goal

pub invariant_of-result : goal.invariant_of-result
invariant_of-result c = kept c.in_ok-copy.copy.items c.args.self.now (c.in_ok-copy.ensures ∙ c.bytes.ensures.value) c.bytes.ensures.fits

pub returns : goal.returns
returns c = spelled c.in_ok-copy.copy.items c.args.self.now (c.in_ok-copy.ensures ∙ c.bytes.ensures.value) c.bytes.ensures.fits
