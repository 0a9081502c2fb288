use Rattle.std.proofs.Common.{◌≡◌, ◌++◌, take, string_bytes}
use Rattle.session_text.specs.SessionText.{lines_of_records}
use Rattle.session_text.proofs.text.write_records.Given as goal

abbrev pub invariant-loop-i : goal.invariant-loop-i
invariant-loop-i l = string_bytes l.text ≡ string_bytes l.initial.text ++ lines_of_records 0 (take l.i l.records)
