use Rattle.std.proofs.Common.{ap, ◌∙◌, ◌++◌, ◌∷◌, [], List}
use Rattle.item_ids.specs.declared.key.Key.{Key}
use Rattle.item_ids.specs.declared.key.Key.TheVariants.{Answer}
use Rattle.key_states.proofs.ReachRules.{are_roots}
use Rattle.key_states.proofs.reaching.roots.Goals as goal

pub returns : goal.returns
returns c = are_roots _ _ (c.in_ok-push.ensures.items ∙ ap (λ (ks : List Key). ks ++ Answer ∷ []) c.in_ok-keys.ensures)
