use Rattle.std.proofs.Common.{◌≡◌, map, take}
use Rattle.redgreen_words.proofs.strings.ByteStrings.slices.Given as goal

abbrev pub invariant-loop-string : goal.invariant-loop-string
invariant-loop-string l = map (λ x. x.now) l.slices.items ≡ take l.string-index l.list
