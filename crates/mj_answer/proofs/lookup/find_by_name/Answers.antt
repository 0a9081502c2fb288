use Rattle.std.proofs.Common.{sym, ap, ◌∙◌}
use Rattle.std.specs.Option.{option_copied}
use Rattle.std.specs.Str.{bytes_eq}
use Rattle.mj_answer.proofs.Searches.{find-Some, find-None, option_copied-get}
use Rattle.mj_answer.proofs.lookup.find_by_name.Goals as goal

pub returns-in_err-at : goal.returns-in_err-at
returns-in_err-at g c =
    ap option_copied c.from_residual.ensures
    ∙ sym (find-None (λ item. bytes_eq (g.T.Named.name_of item) c.args.name.now) c.args.items.now (sym c.position_by_name.ensures ∙ c.in_err-at.was))

pub returns : goal.returns
returns g c =
    option_copied-get c.args.items.now c.in_ok-at.at c.get.result c.get.ensures.lookup.0 c.get.ensures.lookup.1
    ∙ sym (find-Some (λ item. bytes_eq (g.T.Named.name_of item) c.args.name.now) c.args.items.now c.in_ok-at.at (sym c.position_by_name.ensures ∙ c.in_ok-at.was))
