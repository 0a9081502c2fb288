-- Marks: their numbers, and which one inputs have.
use Rattle.std.specs.Prelude.{ℕ, Bool, true, false}
use Rattle.sessions.specs.declared.mark.Mark.{Mark}
use Rattle.sessions.specs.declared.mark.Mark.TheVariants.{Input, Executed, Green}

abbrev pub mark_number : Mark → ℕ
mark_number Input = 0
mark_number Executed = 1
mark_number Green = 2

-- whether a key that became done so is an input
abbrev pub is_input_mark : Mark → Bool
is_input_mark Input = true
is_input_mark _ = false
