use Rattle.std.proofs.Common.{arith}
use Rattle.result_bytes.specs.ItemLaws.{lawful_index}
use Rattle.result_bytes.specs.Reading.{index_at}
use Rattle.result_bytes.proofs.files.read_index.Goals as goal

pub invariant_of-result : goal.invariant_of-result
unfolding index_at
invariant_of-result c = (lawful_index.takes c.args.bytes.now _ _ (λ i. omega (arith, c.type_inv.bytes i)) c.in_ok-rows.ensures).1
