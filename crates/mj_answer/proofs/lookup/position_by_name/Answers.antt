use Rattle.std.proofs.Common.{◌∙◌, rules}
use Rattle.std.proofs.lemmas.Fn.{always_returns_same}
use Rattle.std.specs.Ordering.{nat_cmp}
use Rattle.std.specs.Cmp.Lexicographic.{slice_cmp}
use Rattle.mj_answer.proofs.Searches.{searched}
use Rattle.mj_answer.proofs.lookup.position_by_name.Goals as goal

pub returns : goal.returns
returns g c =
    let found = c.binary_search_by.ensures in
    c.ok.ensures.value ∙ searched g.T.Named.name_of c.args.name.now c.args.items.now c.requires c.binary_search_by.result found.bound
    (found.position (λ item. slice_cmp nat_cmp (g.T.Named.name_of item) c.args.name.now) (always_returns_same _ _ _ (λ a r f' called. search rules)))
