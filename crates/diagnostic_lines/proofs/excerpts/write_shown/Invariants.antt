use Rattle.std.proofs.Common.{◌≡◌, ◌++◌, map, take, string_bytes}
use Rattle.diagnostic_lines.specs.Excerpts.{shown}
use Rattle.diagnostic_lines.proofs.excerpts.write_shown.Given as goal

abbrev pub invariant-loop-byte : goal.invariant-loop-byte
invariant-loop-byte l = string_bytes l.text ≡ string_bytes l.initial.text ++ map shown (take l.byte-index l.bytes)
