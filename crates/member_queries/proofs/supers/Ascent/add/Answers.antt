use Rattle.std.proofs.Common.{◌≡◌, ℕ, List, [], ◌∷◌, ◌++◌, sym, ap, subst, ◌∙◌}
use Rattle.member_queries.specs.Met.{HasMet}
use Rattle.member_queries.proofs.NameSets.{met_more}
use Rattle.member_queries.proofs.supers.Ascent.add.Goals as goal

pub invariant_of-result : goal.invariant_of-result
invariant_of-result c =
    let names = c.self.inside.names.items in
    let key = c.in_ok-copy.field-0 in
    let items : c.push.new.self.items ≡ names ++ key ∷ [] = c.in_ok-push.ensures.items ∙ ap (λ (n : List ℕ). names ++ n ∷ []) (sym c.in_ok-copy.ensures) in
    subst (HasMet c.insert.new.self) (sym items) (met_more c.self.inside.met c.insert.new.self key names c.in_ok-insert.ensures.updates c.self.invariant)
