use Rattle.std.proofs.Common.{rules, ◌≡◌, sym, ap, ◌∙◌}
use Rattle.std.proofs.lemmas.Option.{none-some, same_Some}
use Rattle.sessions.specs.Spelling.{start}
use Rattle.session_file.proofs.FileLaws.{terms_told}
use Rattle.session_file.proofs.reading.files.terms_of_start.Goals as goal

pub returns-in_err-terms-clause-none : goal.returns-in_err-terms-clause-none
returns-in_err-terms-clause-none c = rw c.from_residual.ensures (λ terms is.
    none-some terms (sym c.in_err-terms.was ∙ (c.of_version.ensures ∙ terms_told c.args.bytes.now terms c.read_u16.result c.read_u16.ensures is)))

pub returns-else-eq-clause-none : goal.returns-else-eq-clause-none
returns-else-eq-clause-none c = λ terms is.
    let differs : c.args.bytes.now ≡ c.start_of.result → ⊥ = search rules in
    let same = same_Some terms c.in_ok-terms.terms (sym (c.of_version.ensures ∙ terms_told c.args.bytes.now terms c.read_u16.result c.read_u16.ensures is) ∙ c.in_ok-terms.was) in
    differs (is ∙ (ap start same ∙ sym c.start_of.ensures))
