-- Diagnostics in places of a class.
use Rattle.std.proofs.Common.{◌≡◌, List, [], ◌∷◌, ◌++◌, refl}
use Rattle.mj_answer.specs.declared.diagnostic.Diagnostic.{Diagnostic}
use Rattle.answer_bytes.specs.Storable.{AreClassFaults}
use Rattle.query_rules.specs.Items.{fault_set}

pub places_append : (xs ys : List Diagnostic) → AreClassFaults xs → AreClassFaults ys → AreClassFaults (xs ++ ys)
places_append [] ys h k = k
places_append (x ∷ xs) ys h k = (h.0, places_append xs ys h.1 k)

pub no_faults : fault_set [] ≡ []
unfolding fault_set
no_faults = refl
