use Rattle.std.proofs.Common.{◌≡◌, Ok, refl, arith}
use Rattle.answer_bytes.specs.Reading.{project_faults_at, answer_of, answer_at}
use Rattle.answer_bytes.specs.AnswerLaws.{lawful_answer}
use Rattle.answer_bytes.proofs.answer.read_answer.Goals as goal

pub invariant_of-result : goal.invariant_of-result
unfolding answer_at project_faults_at
invariant_of-result c =
    let read : answer_at c.args.bytes.now ≡ Ok (answer_of (c.in_ok-faults.faults.items, c.in_ok-classes.classes.items), c.in_ok-classes.rest.now) = rw (c.in_ok-faults.ensures, c.in_ok-classes.ensures) refl in
    rw c.new-answer.ensures ((lawful_answer.takes c.args.bytes.now _ _ (λ i. omega (arith, c.type_inv.bytes i)) read).1)
