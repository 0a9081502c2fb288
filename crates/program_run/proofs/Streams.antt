-- What a stream holds after a text was written and flushed.
use Rattle.std.proofs.Common.{◌≡◌, ◌∙◌, ℕ, List, [], ◌++◌, Option, Some, None, sym, ap, subst, append-nil, append_assoc}
use Rattle.std.specs.Io.KnownBytes.{Appends}

-- one text behind another
pub appends_both : (before between after : Option (List ℕ)) (first second : List ℕ) → Appends before between first → Appends between after second
    → Appends before after (first ++ second)
appends_both None between after first second a b = tt
appends_both (Some x) None after first second a b = absurd a
appends_both (Some x) (Some y) None first second a b = absurd b
appends_both (Some x) (Some y) (Some z) first second a b = b ∙ (ap (λ t. t ++ second) a ∙ append_assoc x first second)

-- a stream that is as it was
pub appends_none : (before after : Option (List ℕ)) → before ≡ after → Appends before after []
appends_none None after same = tt
appends_none (Some x) None same = absurd cc
appends_none (Some x) (Some y) same = let e : x ≡ y = cc in sym e ∙ sym (append-nil x)

-- a text behind no text
pub appends_behind : (before between after : Option (List ℕ)) (first second : List ℕ) → first ≡ [] → Appends before between first → Appends between after second
    → Appends before after second
appends_behind before between after first second none a b =
    subst (λ (t : List ℕ). Appends before after (t ++ second)) none (appends_both before between after first second a b)
