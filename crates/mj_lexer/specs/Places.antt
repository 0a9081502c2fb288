-- Lines and columns of a text, both counted from 1.
use Rattle.std.specs.Prelude.{ℕ, ◌+◌, Bool, not, ◌==◌, List, take, count_by}
use Rattle.std.specs.List.{suffix_len}

abbrev pub is_line_feed : ℕ → Bool
is_line_feed b = b == 10

abbrev pub is_inside_line : ℕ → Bool
is_inside_line b = not (is_line_feed b)

-- one more than the line feeds before the place
abbrev pub line_of : List ℕ → ℕ → ℕ
line_of text at = count_by is_line_feed (take at text) + 1

-- one more than the bytes before the place that come behind the last line feed there
abbrev pub column_of : List ℕ → ℕ → ℕ
column_of text at = suffix_len is_inside_line (take at text) + 1
