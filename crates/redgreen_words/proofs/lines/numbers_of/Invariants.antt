use Rattle.std.proofs.Common.{◌≡◌, map, take, decimal}
use Rattle.redgreen_words.specs.Words.{AreSmall}
use Rattle.redgreen_words.proofs.lines.numbers_of.Given as goal

abbrev pub invariant-loop-i : goal.invariant-loop-i
invariant-loop-i l = record {
  are : map decimal l.numbers.items ≡ take l.i (map (λ x. x.now) l.items);
  small : AreSmall l.numbers.items;
}
