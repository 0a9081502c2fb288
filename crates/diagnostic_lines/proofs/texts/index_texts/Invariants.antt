use Rattle.std.proofs.Common.{◌≡◌, take}
use Rattle.diagnostic_lines.proofs.texts.index_texts.Given as goal

abbrev pub invariant-loop-text : goal.invariant-loop-text
invariant-loop-text l = l.indexed.items ≡ take l.text-index l.texts
