use Rattle.std.proofs.Common.{◌≡◌, ◌<◌, Some, length, slice_get, sym, ap, ◌∙◌}
use Rattle.std.proofs.lemmas.Bool.{ltb-true}
use Rattle.std.proofs.lemmas.Option.{slice_get-get_or}
use Rattle.redgreen_audit.proofs.Differing.{match_taken}
use Rattle.redgreen_audit.proofs.checking.is_taken_from.Goals as goal

pub returns : goal.returns
returns c =
    let had = c.in-Some.had.now in
    let lt : c.args.place < length c.args.past.now = ltb-true c.args.place (length c.args.past.now) (sym c.in-Some.ensures.lookup.0) in
    let at : slice_get c.args.past.now c.args.place ≡ Some had = slice_get-get_or c.args.past.now c.args.place had lt ∙ ap Some (sym c.in-Some.ensures.lookup.1) in
    match_taken c.are_previous.result c.args.past.now c.args.now.now c.args.place had c.args.item.now c.as_slice-2.result.now c.as_slice.result.now at c.if-is_input.ensures
    c.as_slice-2.ensures.value c.as_slice.ensures.value c.are_previous.ensures
