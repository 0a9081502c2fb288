use Rattle.std.proofs.Common.{◌≡◌, ◌++◌, take, codes, map, string_bytes}
use Rattle.std.specs.Prelude.{flat_map}
use Rattle.code_words.proofs.asking.write_line.Given as goal

abbrev pub invariant-loop-code : goal.invariant-loop-code
invariant-loop-code l = string_bytes l.text ≡ string_bytes l.initial.text ++ flat_map (λ c. codes " " ++ c) (map (λ c. c.now) (take l.code-index l.group))
