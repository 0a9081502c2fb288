use Rattle.std.proofs.Common.{arith}
use Rattle.tree_bytes.proofs.Bodies.{method_fewer, method_is, method_kept}
use Rattle.tree_bytes.proofs.body.Body.front_method.Goals as goal

pub slice_bounds-copy_bytes-count : goal.slice_bounds-copy_bytes-count
slice_bounds-copy_bytes-count c = method_fewer c.args.bytes.now c.args.left.now (λ i. omega (arith, c.type_inv.bytes i)) c.requires

pub invariant_of-result : goal.invariant_of-result
invariant_of-result c = method_kept c.args.bytes.now c.args.left.now (λ i. omega (arith, c.type_inv.bytes i)) c.requires c.in_ok-bytes.bytes.items c.in_ok-bytes.ensures

pub returns-clause-method : goal.returns-clause-method
returns-clause-method c = (method_is c.args.bytes.now c.args.left.now (λ i. omega (arith, c.type_inv.bytes i)) c.requires c.in_ok-bytes.bytes.items c.in_ok-bytes.ensures).method

pub returns-clause-read : goal.returns-clause-read
returns-clause-read c = (method_is c.args.bytes.now c.args.left.now (λ i. omega (arith, c.type_inv.bytes i)) c.requires c.in_ok-bytes.bytes.items c.in_ok-bytes.ensures).read

pub returns-clause-fits : goal.returns-clause-fits
returns-clause-fits c = (method_is c.args.bytes.now c.args.left.now (λ i. omega (arith, c.type_inv.bytes i)) c.requires c.in_ok-bytes.bytes.items c.in_ok-bytes.ensures).fits
