-- In which colours the records of a session are drawn.
use Rattle.std.specs.Prelude.{ℕ, Bool, false, List, Option, Some, None, codes, if◌then◌else◌}
use Rattle.std.specs.Str.{bytes_eq}
use Rattle.fingerprint.specs.Prints.{print_of}
use Rattle.sessions.specs.declared.mark.Mark.{Mark}
use Rattle.sessions.specs.declared.mark.Mark.TheVariants as marks
use Rattle.sessions.specs.Sessions.{Entry, RecordValue, SessionValue, past_entry}
use Rattle.session_text.specs.declared.drawing.shade.Shade.{Shade}
use Rattle.session_text.specs.declared.drawing.shade.Shade.TheVariants.{Input, Red, Executed, Green}

-- whether there is an entry with this fingerprint
abbrev pub has_print : Option Entry → List ℕ → Bool
has_print None print = false
has_print (Some had) print = bytes_eq (print_of had.value) print

abbrev pub mark_shade : Mark → Shade
mark_shade marks.Input = Input
mark_shade marks.Executed = Executed
mark_shade marks.Green = Green

-- the mark's, if the session before has the key with the same fingerprint, and else red
abbrev pub shade_of : Option SessionValue → RecordValue → Shade
shade_of past r =
    if has_print (past_entry past r.key) (print_of r.value) then mark_shade r.mark else Red

abbrev pub class_word : Shade → List ℕ
class_word Input = codes "input"
class_word Red = codes "red"
class_word Executed = codes "executed"
class_word Green = codes "green"

abbrev pub fill_word : Shade → List ℕ
fill_word Input = codes "#e8e8e8"
fill_word Red = codes "#f6c1ba"
fill_word Executed = codes "#fbe3a6"
fill_word Green = codes "#cdebcf"
