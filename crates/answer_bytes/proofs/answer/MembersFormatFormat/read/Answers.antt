use Rattle.std.proofs.Common.{arith}
use Rattle.answer_bytes.specs.AnswerLaws.{lawful_table}
use Rattle.answer_bytes.proofs.answer.MembersFormatFormat.read.Goals as goal

pub invariant_of-result : goal.invariant_of-result
invariant_of-result c = (lawful_table.takes c.args.bytes.now _ _ (λ i. omega (arith, c.type_inv.bytes i)) c.in_ok-table.ensures).1
