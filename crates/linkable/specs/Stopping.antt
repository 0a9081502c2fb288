-- Why a call has no answer.
use Rattle.std.specs.Prelude.{ℕ, List, string_bytes}
use Rattle.linkable.specs.declared.stopping.Stop.{Stop}
use Rattle.linkable.specs.declared.stopping.Stop.TheVariants as stop

-- this holds of the line that says why there is no answer; out of memory has no line
abbrev pub Says : (List ℕ → Type 0) → Stop → Type 0
Says Refuses (stop.Refused line) = Refuses (string_bytes line)
Says Refuses stop.OutOfMemory = Unit {0}
