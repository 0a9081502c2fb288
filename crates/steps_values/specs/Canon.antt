-- The canonical bytes of the items that values are made of. Numbers are big endian.
use Rattle.std.specs.Prelude.{ℕ, List, ◌++◌, length}
use Rattle.byte_readers.specs.Spelling.{eight, name, list}
use Rattle.steps_values.specs.Payloads.{StepValue}

-- bytes of a file or a step: their number, and they themselves
abbrev pub text : List ℕ → List ℕ
text bytes = eight (length bytes) ++ bytes

-- a step: its name, and the names of what it reads
abbrev pub step : StepValue → List ℕ
step s = name s.name ++ list name s.reads

abbrev pub plan : List StepValue → List ℕ
plan steps = list step steps
