use Rattle.std.proofs.Common.{◌∷◌, ◌++◌, [], sym, subst}
use Rattle.std.specs.Arc.{arc_value}
use Rattle.std.proofs.lemmas.Slice.Zip.{all_zipped_more}
use Rattle.recorder.specs.Backed.{ReadValue}
use Rattle.run_fixtures.specs.Reading.{IsReadOf, AreReadsOf}
use Rattle.run_fixtures.proofs.answers.add.Goals as goal

pub returns : goal.returns
returns c = λ before all.
    let read : ReadValue = record { key = c.in_ok-key.key; value = arc_value c.in_ok-answer.answer } in
    let told : IsReadOf c.args.given read = record { key = c.in_ok-key.ensures.told; answer = c.in_ok-answer.ensures.told.spelled } in
    subst (AreReadsOf (before ++ c.args.given ∷ [])) (sym c.in_ok-add.ensures.ok) (all_zipped_more IsReadOf before c.args.list.now c.args.given read all told)
