-- The lines of a text by the places of its line feeds.
use Rattle.std.specs.Prelude.{ℕ, ◌+◌, Bool, List, [], ◌∷◌, length, get_or, filter}
use Rattle.mj_lexer.specs.Places.{is_line_feed}
use Rattle.mj_parser.specs.Locations.{numbers}

-- the places from `low` to before `high` at which the test holds
abbrev pub places_where : (ℕ → Bool) → ℕ → ℕ → List ℕ
places_where test low high = filter test (numbers low high)

abbrev pub is_feed_at : List ℕ → ℕ → Bool
is_feed_at text at = is_line_feed (get_or text at 0)

-- where the line feeds of a text stand
abbrev pub line_feeds : List ℕ → List ℕ
line_feeds text = places_where (is_feed_at text) 0 (length text)

-- the place behind the last of these, or the beginning
abbrev pub behind_last : List ℕ → ℕ
behind_last [] = 0
behind_last (x ∷ []) = x + 1
behind_last (x ∷ y ∷ xs) = behind_last (y ∷ xs)
