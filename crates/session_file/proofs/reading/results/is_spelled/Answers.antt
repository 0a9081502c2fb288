use Rattle.std.proofs.Common.{rules, ◌≡◌, sym, ◌∙◌}
use Rattle.std.proofs.lemmas.Slice.Eq.{bytes_eq-Decides}
use Rattle.session_file.proofs.RecordReadLaws.{spelled_is}
use Rattle.session_file.proofs.reading.results.is_spelled.Goals as goal

pub returns : goal.returns
returns c =
    let kind : c.kind.result ≡ c.args.kind = search rules in
    let print : c.print.result.0 ≡ c.args.print.now = search rules in
    λ same.
    let text = (bytes_eq-Decides c.bytes.result.now c.args.text.now).0 (sym c.eq.ensures ∙ same) in
    spelled_is c.args.kind c.args.sealed.now c.args.print.now c.args.text.now c.value.ensures.kept (rw c.value.ensures.value at (sym c.kind.ensures ∙ kind)) (sym print ∙ c.print.ensures) (sym text ∙ c.bytes.ensures)
