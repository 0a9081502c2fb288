use Rattle.std.proofs.Common.{arith}
use Rattle.steps_values.specs.ItemLaws.{lawful_file_names}
use Rattle.steps_values.proofs.files.read_file_names.Goals as goal

pub invariant_of-result : goal.invariant_of-result
invariant_of-result c = (lawful_file_names.takes c.args.bytes.now _ _ (λ i. omega (arith, c.type_inv.bytes i)) c.in_ok-names.ensures).1
