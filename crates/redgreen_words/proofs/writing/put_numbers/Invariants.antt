use Rattle.std.proofs.Common.{◌≡◌, ◌∷◌, ◌++◌, take, decimal, flat_map}
use Rattle.redgreen_words.specs.Words.{AreSmall}
use Rattle.redgreen_words.proofs.writing.put_numbers.Given as goal

abbrev pub invariant-loop-number : goal.invariant-loop-number
invariant-loop-number l = record {
  put : l.out.items ≡ l.initial.out.items ++ flat_map (λ n. 32 ∷ decimal n) (take l.number-index l.numbers);
  small : AreSmall (take l.number-index l.numbers);
}
