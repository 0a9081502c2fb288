use Rattle.std.proofs.Common.{◌≡◌, ◌++◌, take, codes, string_bytes}
use Rattle.std.specs.Prelude.{flat_map}
use Rattle.code_words.specs.Explained.{word_text}
use Rattle.code_words.proofs.asking.write_asked.Given as goal

abbrev pub invariant-loop-word : goal.invariant-loop-word
invariant-loop-word l =
    string_bytes l.text ≡ string_bytes l.initial.text ++ flat_map (λ other. codes "\n" ++ word_text other) (take l.word-index l.others)
