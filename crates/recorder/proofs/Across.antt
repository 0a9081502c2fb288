-- The laws of reads from one profile to another.
use Rattle.std.proofs.Common.{◌≡◌, ◌⊎◌, inl, inr, subst, false}
use Rattle.profiles.specs.declared.profile.Profile.{Profile}
use Rattle.item_ids.specs.declared.key.Key.{Key}
use Rattle.item_ids.specs.Keys.{kind_of}
use Rattle.recorder.specs.Backed.{ReadLaws, Queries, AreLawful}

-- They hold if the profiles are one, or the key's kind doesn't go by the profile.
pub between : (queries : Queries) → AreLawful queries → (a b : Profile) (q : Key) → (a ≡ b) ⊎ (queries.by_profile (kind_of q) ≡ false)
    → ReadLaws (queries.mean a) (queries.reads a) (queries.mean b) (queries.reads b) q
between queries laws a b q (inl e) =
    subst (λ (x : Profile). ReadLaws (queries.mean a) (queries.reads a) (queries.mean x) (queries.reads x) q) e
    (record { next = λ p r i. (laws.each a).next p r q i; same = λ p r. (laws.each a).same p r q })
between queries laws a b q (inr same) = laws.across a b q same
