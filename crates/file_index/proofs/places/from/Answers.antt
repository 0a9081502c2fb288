use Rattle.std.proofs.Common.{◌∙◌, nat_lt, nat_le, sym, rules, arith}
use Rattle.std.proofs.lemmas.Bool.{lt-leb, le-leb, ltb-true, ltb-false}
use Rattle.std.proofs.lemmas.List.{take_all, length-drop}
use Rattle.std.proofs.lemmas.List.Sorted.{IsPartitionPoint-from_clause, IsPartitionedBy-ltb}
use Rattle.file_index.proofs.Positions.{rest_is}
use Rattle.file_index.proofs.places.from.Goals as goal

pub returns : goal.returns
returns c =
    let parted = IsPartitionedBy-ltb (λ p. p) _ c.args.bound c.requires in
    let point = IsPartitionPoint-from_clause (λ p. nat_lt p c.args.bound) _ _ c.partition_point-count.ensures.partitioned parted (λ a r q k. search rules) in
    let rest = rest_is (λ p. nat_le c.args.bound p) c.args.places.now c.partition_point-count.result c.partition_point-count.ensures.bound (λ k d low high. lt-leb _ _ (ltb-true _ _ (point.0 k d low high))) (λ k d low high. le-leb _ _ (ltb-false _ _ (point.1 k d low high))) in
    let long = length-drop c.partition_point-count.result c.args.places.now in
    take_all _ _ (omega (arith, long)) ∙ sym rest
