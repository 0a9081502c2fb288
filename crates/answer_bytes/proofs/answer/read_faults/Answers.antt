use Rattle.std.proofs.Common.{arith}
use Rattle.answer_bytes.specs.AnswerLaws.{lawful_class_faults}
use Rattle.answer_bytes.specs.Reading.{class_faults_at}
use Rattle.answer_bytes.proofs.answer.read_faults.Goals as goal

pub invariant_of-result : goal.invariant_of-result
unfolding class_faults_at
invariant_of-result c = (lawful_class_faults.takes c.args.bytes.now _ _ (λ i. omega (arith, c.type_inv.bytes i)) c.in_ok-list.ensures).1
