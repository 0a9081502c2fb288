use Rattle.std.proofs.Common.{◌∷◌, ◌++◌, [], sym, subst}
use Rattle.std.specs.List.{AllZip}
use Rattle.std.proofs.lemmas.Slice.Zip.{all_zipped_more}
use Rattle.session_fixtures.specs.Telling.{IsTakenOverRecord}
use Rattle.session_fixtures.proofs.second.add_again.Goals as goal

pub returns : goal.returns
returns c = λ before all.
    subst (AllZip IsTakenOverRecord (before ++ c.args.kept.now ∷ [])) (sym c.in_ok-push.ensures)
    (all_zipped_more IsTakenOverRecord before c.args.again.now.items c.args.kept.now c.taken_over-last.result all c.taken_over-last.ensures)
