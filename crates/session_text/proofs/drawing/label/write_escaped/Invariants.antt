use Rattle.std.proofs.Common.{◌≡◌, ◌++◌, encode_utf8_all, flat_map, string_bytes}
use Rattle.session_text.specs.SessionGraph.{escaped_char}
use Rattle.session_text.proofs.drawing.label.write_escaped.Given as goal

abbrev pub invariant-loop-c : goal.invariant-loop-c
invariant-loop-c l = string_bytes l.text ≡ string_bytes l.initial.text ++ encode_utf8_all (flat_map escaped_char l.yielded)
