-- Items that follow each other.
use Rattle.std.specs.Prelude.{ℕ, ◌+◌, max, List, [], ◌∷◌}

-- how many tokens they have
abbrev pub row_size : {A : Type 0} → (A → ℕ) → List A → ℕ
row_size size [] = 0
row_size size (x ∷ xs) = size x + row_size size xs

-- how many levels they have
abbrev pub row_height : {A : Type 0} → (A → ℕ) → List A → ℕ
row_height height [] = 0
row_height height (x ∷ xs) = max (height x) (row_height height xs)

-- each stands at the place after the one before, the first at place i
abbrev pub InRow : {A : Type 0} → (ℕ → A → Type 0) → (A → ℕ) → ℕ → List A → Type 0
InRow Is size i [] = Unit {0}
InRow Is size i (x ∷ xs) = Is i x × InRow Is size (i + size x) xs
