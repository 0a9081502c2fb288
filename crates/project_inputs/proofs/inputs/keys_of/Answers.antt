use Rattle.std.proofs.Common.{◌≡◌, List, suc, ◌+◌, ◌∷◌, ◌∙◌, ap, sym, arith}
use Rattle.item_ids.specs.declared.key.Key.{Key}
use Rattle.item_ids.specs.declared.key.Key.TheVariants as keys
use Rattle.project_inputs.proofs.SourceRules.{key_more}
use Rattle.project_inputs.proofs.inputs.keys_of.Goals as goal

pub loop-at-preserved : goal.loop-at-preserved
loop-at-preserved c =
    let one : c.loop-at.at + 1 ≡ suc c.loop-at.at = omega arith in
    let more = key_more c.args.sources.now.entries c.loop-at.at (c.in-Some.name.now, c.in-Some.field-0-1.now) (sym c.in-Some.ensures.entry) in
    rw one (c.in_ok-push-2.ensures.items ∙ rw (c.loop-at.invariant, c.in_ok-copy.ensures) (ap (λ (ks : List Key). keys.Files ∷ ks) (sym more)))
