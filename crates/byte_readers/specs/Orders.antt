-- Lists in ascending order.
use Rattle.std.specs.Prelude.{Bool, true, List, [], ◌∷◌}

-- whether an item comes after the last of those in front of it
abbrev pub is_after : {A : Type 0} → (A → A → Bool) → List A → A → Bool
is_after precedes [] item = true
is_after precedes (a ∷ []) item = precedes a item
is_after precedes (a ∷ (b ∷ rest)) item = is_after precedes (b ∷ rest) item
