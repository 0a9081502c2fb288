-- What a name is.
use Rattle.std.specs.Prelude.{◌≡◌, ℕ, ◌<◌, ◌≤◌, true, List, length}
use Rattle.std.specs.Str.{is_utf8}
use Rattle.ordered_names.specs.Names.{most_name_bytes}

-- a text of 1 to 255 bytes
pub record IsName (bytes : List ℕ) : Type 0 where
  pub some : 0 < length bytes
  pub short : length bytes ≤ most_name_bytes
  pub text : is_utf8 bytes ≡ true
