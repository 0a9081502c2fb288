use Rattle.std.proofs.Common.{◌∷◌, ◌++◌, [], sym, subst}
use Rattle.std.proofs.lemmas.Slice.Zip.{all_zipped_more}
use Rattle.session_fixtures.specs.Telling.{IsRecordOf, AreRecordsOf}
use Rattle.session_fixtures.proofs.records.add_record.Goals as goal

pub returns : goal.returns
returns c = λ before all.
    subst (AreRecordsOf (before ++ c.args.kept.now ∷ [])) (sym c.in_ok-push.ensures)
    (all_zipped_more IsRecordOf before c.args.records.now.items c.args.kept.now c.in_ok-record.record all c.in_ok-record.ensures)
