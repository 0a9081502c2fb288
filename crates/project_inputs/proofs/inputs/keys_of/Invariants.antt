use Rattle.std.proofs.Common.{◌≡◌, ◌∷◌, map, take}
use Rattle.item_ids.specs.declared.key.Key.TheVariants as keys
use Rattle.project_inputs.specs.Inputs.{file_of}
use Rattle.project_inputs.proofs.inputs.keys_of.Given as goal

abbrev pub invariant-loop-at : goal.invariant-loop-at
invariant-loop-at l = l.keys.items ≡ keys.Files ∷ map (λ f. keys.Source f.name) (map file_of (take l.at l.sources.entries))
