use Rattle.std.proofs.Common.{arith}
use Rattle.tree_bytes.proofs.Bodies.{behind_tag, main_fewer, main_kept, main_is}
use Rattle.tree_bytes.proofs.body.Body.front_main.Goals as goal

pub slice_bounds-extend_from_slice-count : goal.slice_bounds-extend_from_slice-count
slice_bounds-extend_from_slice-count c = main_fewer c.args.bytes.now c.args.left.now (λ i. omega (arith, c.type_inv.bytes i)) c.requires

pub invariant_of-result : goal.invariant_of-result
invariant_of-result c = main_kept c.args.bytes.now c.args.left.now (λ i. omega (arith, c.type_inv.bytes i)) c.requires c.extend_from_slice.new.self.items (behind_tag 0 _ _ _ _ c.new-own.ensures.items c.in_ok-push.ensures.items c.in_ok-extend_from_slice.ensures.items)

pub returns-clause-main : goal.returns-clause-main
returns-clause-main c = (main_is c.args.bytes.now c.args.left.now (λ i. omega (arith, c.type_inv.bytes i)) c.requires c.extend_from_slice.new.self.items (behind_tag 0 _ _ _ _ c.new-own.ensures.items c.in_ok-push.ensures.items c.in_ok-extend_from_slice.ensures.items)).main

pub returns-clause-read : goal.returns-clause-read
returns-clause-read c = (main_is c.args.bytes.now c.args.left.now (λ i. omega (arith, c.type_inv.bytes i)) c.requires c.extend_from_slice.new.self.items (behind_tag 0 _ _ _ _ c.new-own.ensures.items c.in_ok-push.ensures.items c.in_ok-extend_from_slice.ensures.items)).read

pub returns-clause-fits : goal.returns-clause-fits
returns-clause-fits c = (main_is c.args.bytes.now c.args.left.now (λ i. omega (arith, c.type_inv.bytes i)) c.requires c.extend_from_slice.new.self.items (behind_tag 0 _ _ _ _ c.new-own.ensures.items c.in_ok-push.ensures.items c.in_ok-extend_from_slice.ensures.items)).fits
