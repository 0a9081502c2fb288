-- Names: how long they are, and how they keep their text.
use Rattle.std.specs.Prelude.{ℕ, List}
use Rattle.std.specs.String.{string_bytes}
use Rattle.ordered_names.specs.declared.name.Text.{Text}
use Rattle.ordered_names.specs.declared.name.Text.TheVariants.{Short, Long}

-- the bytes of the text
abbrev pub bytes_of : Text → List ℕ
bytes_of (Short text) = text.bytes
bytes_of (Long text) = string_bytes text

-- the most bytes of a name
abbrev pub most_name_bytes : ℕ
most_name_bytes = 255
