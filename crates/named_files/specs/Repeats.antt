-- Names that stand in a list more than once.
use Rattle.std.specs.Prelude.{ℕ, Bool, List, [], ◌∷◌, ◌++◌}
use Rattle.std.specs.Str.{bytes_eq}
use Rattle.std.specs.List.{list_any}

-- one of the names is this
abbrev pub is_in : List (List ℕ) → List ℕ → Bool
is_in names name = list_any (λ n. bytes_eq n name) names

abbrev pub repeats_behind : List (List ℕ) → List (List ℕ) → List Bool
repeats_behind before [] = []
repeats_behind before (name ∷ names) =
    is_in before name ∷ repeats_behind (before ++ name ∷ []) names

-- for each name, whether it stands earlier in the list, too
unfoldable pub repeats : List (List ℕ) → List Bool
repeats names = repeats_behind [] names
