-- Flags that are set one after the other.
use Rattle.std.specs.Prelude.{ℕ, Bool, true, List, [], ◌∷◌, slice_set}

-- the flags with these set
abbrev pub with_flags : List Bool → List ℕ → List Bool
with_flags flags [] = flags
with_flags flags (e ∷ es) = with_flags (slice_set flags e true) es
