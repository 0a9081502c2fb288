-- What a sink over a writer says of the writer's bytes.
use Rattle.std.proofs.Common.{◌≡◌, ◌++◌, ℕ, List, Option, Some, None, refl, sym, subst, ◌∙◌}
use Rattle.std.specs.Io.KnownBytes.{Appends, Keeps}

-- A writer that has the bytes behind whatever it had has them behind its known bytes.
appended : (old new : Option (List ℕ)) (bytes : List ℕ) → ((front : List ℕ) → old ≡ Some front → new ≡ Some (front ++ bytes)) → Appends old new bytes
appended None new bytes h = tt
appended (Some xs) new bytes h = subst (λ (n : Option (List ℕ)). Appends (Some xs) n bytes) (sym (h xs refl)) refl

-- what was appended stays behind what there was
pub kept_behind : (old mid new : Option (List ℕ)) (bytes : List ℕ) → Appends old mid bytes → Keeps mid new → Appends old new bytes
kept_behind None mid new bytes a k = tt
kept_behind (Some xs) None new bytes a k = absurd a
kept_behind (Some xs) (Some ys) None bytes a k = absurd k
kept_behind (Some xs) (Some ys) (Some zs) bytes a k = k ∙ a

pub put_then_kept : (old mid new : Option (List ℕ)) (bytes : List ℕ) → ((front : List ℕ) → old ≡ Some front → mid ≡ Some (front ++ bytes)) → Keeps mid new → Appends old new bytes
put_then_kept old mid new bytes h k = kept_behind old mid new bytes (appended old mid bytes h) k
