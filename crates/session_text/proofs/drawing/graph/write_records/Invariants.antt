use Rattle.std.proofs.Common.{◌≡◌, ◌++◌, drop, string_bytes}
use Rattle.std.specs.Option.{option_copied}
use Rattle.session_text.specs.SessionGraph.{drawn_lines}
use Rattle.session_text.proofs.drawing.graph.write_records.Given as goal

-- what is written, and what the rest of the records gives, are the lines of all
abbrev pub invariant-loop-i : goal.invariant-loop-i
invariant-loop-i l =
    string_bytes l.text ++ drawn_lines (option_copied l.past) l.i (drop l.i l.drawn) (drop l.i l.records)
    ≡ string_bytes l.initial.text ++ drawn_lines (option_copied l.past) 0 l.drawn l.records
