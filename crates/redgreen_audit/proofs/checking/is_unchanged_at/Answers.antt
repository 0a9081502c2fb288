use Rattle.std.proofs.Common.{◌≡◌, ◌<◌, Some, length, slice_get, refl, sym, ap, ◌∙◌}
use Rattle.std.proofs.lemmas.Bool.{ltb-true}
use Rattle.std.proofs.lemmas.Option.{slice_get-get_or}
use Rattle.redgreen_audit.proofs.Differing.{match_unchanged, match_equal}
use Rattle.redgreen_audit.proofs.checking.is_unchanged_at.Goals as goal

pub returns : goal.returns
returns c =
    let had = c.in-Some.had.now in
    let lt : c.args.place < length c.args.past.now = ltb-true c.args.place (length c.args.past.now) (sym c.in-Some.ensures.lookup.0) in
    let at : slice_get c.args.past.now c.args.place ≡ Some had = slice_get-get_or c.args.past.now c.args.place had lt ∙ ap Some (sym c.in-Some.ensures.lookup.1) in
    match_unchanged c.equals-2.result c.args.past.now c.args.place had c.args.item.now at (c.if-not-equals.ensures.0 refl ∙ c.as_slice.ensures)
    (match_equal c.equals-2.result had.value c.args.item.now.value c.as_slice-2.result.now c.as_slice-2.ensures c.equals-2.ensures)
