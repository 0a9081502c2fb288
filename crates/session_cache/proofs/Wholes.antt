-- Files that are read whole.
use Rattle.std.proofs.Common.{◌≡◌, ◌∙◌, ℕ, List, [], ◌++◌, Option, ap, subst}
use Rattle.std.specs.Prelude.{IfSome}
use Rattle.session_cache.specs.Opened.{IsAllOf}

-- behind no bytes a file's bytes are all that it held
pub all_read : {File : Type 0} (held : File → Option (List ℕ)) (opened : File) (front bytes : List ℕ) → front ≡ [] → IfSome (held opened) (λ xs. bytes ≡ front ++ xs) → IsAllOf held opened bytes
all_read held opened front bytes none is = λ all told.
    subst (λ (known : Option (List ℕ)). IfSome known (λ xs. bytes ≡ front ++ xs)) told is ∙ ap (λ (f : List ℕ). f ++ all) none
