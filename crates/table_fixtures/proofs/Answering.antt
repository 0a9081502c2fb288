-- Reads that a list answers.
use Rattle.std.proofs.Common.{◌≡◌, List, Contains, sym, subst}
use Rattle.std.specs.List.{AllByRecursion}
use Rattle.recorder.specs.Backed.{ReadValue}

-- what is answered by a list is answered by the same list under another name
pub answered : (list inner told reads : List ReadValue) → inner ≡ list → reads ≡ told → AllByRecursion (λ t. Contains inner t) told
    → AllByRecursion (λ t. Contains list t) reads
answered list inner told reads same are all =
    subst (λ rs. AllByRecursion (λ t. Contains list t) rs) (sym are) (subst (λ it. AllByRecursion (λ t. Contains it t) told) same all)
