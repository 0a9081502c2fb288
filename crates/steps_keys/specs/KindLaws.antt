-- No two kinds have one number.
use Rattle.std.proofs.Common.{◌≡◌, Some, refl, sym, ap, ◌∙◌}
use Rattle.std.proofs.lemmas.Option.{same_Some}
use Rattle.steps_keys.specs.declared.kind.Kind.{Kind}
use Rattle.steps_keys.specs.declared.kind.Kind.TheVariants.{Files}
use Rattle.steps_keys.specs.Kinds.{number_of, kind_with}

pub kind_again : (kind : Kind) → kind_with (number_of kind) ≡ Some kind
unfolding kind_with
kind_again Files = refl
kind_again _ = refl

pub number_apart : (a b : Kind) → number_of a ≡ number_of b → a ≡ b
number_apart a b e = same_Some a b (sym (kind_again a) ∙ ap kind_with e ∙ kind_again b)
