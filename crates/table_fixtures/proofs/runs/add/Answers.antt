use Rattle.std.proofs.Common.{◌∷◌, ◌++◌, [], sym, subst}
use Rattle.std.specs.Arc.{arc_value}
use Rattle.std.proofs.lemmas.Slice.Zip.{all_zipped_more}
use Rattle.recorder.specs.Backed.{ReadValue}
use Rattle.table_fixtures.specs.Told.{IsAnswerAt, AreAnswersAt}
use Rattle.table_fixtures.proofs.runs.add.Goals as goal

pub returns-in_ok-add-in-Ok : goal.returns-in_ok-add-in-Ok
returns-in_ok-add-in-Ok c = λ before all.
    let records = c.args.records.now in
    let kept = c.in-Some.kept.now in
    let read : ReadValue = record { key = c.in_ok-key.key; value = arc_value c.in-Ok.answer } in
    let told : IsAnswerAt records c.args.at read =
    record { kept = kept; stands = c.in-Some.ensures; key = c.in_ok-key.ensures.told; value = c.in-Ok.ensures.told } in
    subst (AreAnswersAt records (before ++ c.args.at ∷ [])) (sym c.in_ok-add-in-Ok.ensures.ok)
    (all_zipped_more (IsAnswerAt records) before c.args.list.now c.args.at read all told)
