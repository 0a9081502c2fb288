use Rattle.std.proofs.Common.{refl, subst, sym, ◌∙◌, List, ℕ}
use Rattle.session_cache.specs.Names.{IsSpelled, four_digits}
use Rattle.session_cache.proofs.NameRules.{read_before}
use Rattle.session_cache.proofs.names.number_before.Goals as goal

pub returns : goal.returns
returns c =
    let cut = c.in_ok-digits.ensures.cases in
    read_before c.args.name.now c.parse_number.result (sym cut.2 ∙ c.if-not-is_session_end.ensures.0 refl) (subst (λ (l : List ℕ). IsSpelled four_digits l c.parse_number.result) cut.1 c.parse_number.ensures)
