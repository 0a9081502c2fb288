-- Texts that are added to a text.
use Rattle.std.proofs.Common.{◌≡◌, ◌∙◌, ℕ, List, ◌++◌, Result, Ok, Err, append_assoc}
use Rattle.std.specs.Prelude.{OnOk}

-- two texts in a row are one
pub grouped : {A E : Type 0} (r : Result A E) (new old name rest : List ℕ) → OnOk r (new ≡ old ++ name ++ rest) → OnOk r (new ≡ old ++ (name ++ rest))
grouped (Ok a) new old name rest e = e ∙ append_assoc old name rest
grouped (Err e) new old name rest f = tt
