use Rattle.std.proofs.Common.{nat_lt, sym, rules}
use Rattle.std.proofs.lemmas.List.Sorted.{IsPartitionPoint-from_clause, IsPartitionedBy-ltb}
use Rattle.file_index.proofs.Positions.{front_is}
use Rattle.file_index.proofs.places.before.Goals as goal

pub returns-clause-places : goal.returns-clause-places
returns-clause-places c =
    let parted = IsPartitionedBy-ltb (λ p. p) _ c.args.bound c.requires in
    let point = IsPartitionPoint-from_clause (λ p. nat_lt p c.args.bound) _ _ c.partition_point-count.ensures.partitioned parted (λ a r q k. search rules) in
    sym (front_is (λ p. nat_lt p c.args.bound) c.args.places.now c.partition_point-count.result c.partition_point-count.ensures.bound point.0 point.1)
