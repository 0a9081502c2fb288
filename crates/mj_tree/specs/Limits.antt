-- Limits of trees.
use Rattle.std.specs.Prelude.{ℕ}

-- the levels that a phrase may have
abbrev pub most_levels : ℕ
most_levels = 500
