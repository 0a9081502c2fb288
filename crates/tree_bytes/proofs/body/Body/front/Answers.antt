use Rattle.std.proofs.Common.{arith}
use Rattle.tree_bytes.proofs.Bodies.{body_fewer, body_kept, body_read}
use Rattle.tree_bytes.proofs.body.Body.front.Goals as goal

pub slice_bounds-copy_bytes-count : goal.slice_bounds-copy_bytes-count
slice_bounds-copy_bytes-count c = body_fewer c.args.bytes.now c.args.left.now (λ i. omega (arith, c.type_inv.bytes i)) c.requires

pub invariant_of-result : goal.invariant_of-result
invariant_of-result c = body_kept c.args.bytes.now c.args.left.now (λ i. omega (arith, c.type_inv.bytes i)) c.requires c.in_ok-bytes.bytes.items c.in_ok-bytes.ensures

pub returns : goal.returns
returns c = body_read c.args.bytes.now c.args.left.now (λ i. omega (arith, c.type_inv.bytes i)) c.requires c.in_ok-bytes.bytes.items c.in_ok-bytes.ensures
