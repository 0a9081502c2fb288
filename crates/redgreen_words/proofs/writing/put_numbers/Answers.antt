use Rattle.std.proofs.Common.{ℕ, ◌∷◌, decimal, arith}
use Rattle.redgreen_words.proofs.Numbers.{next_put, small_next}
use Rattle.redgreen_words.proofs.writing.put_numbers.Goals as goal

pub loop-number-preserved : goal.loop-number-preserved
loop-number-preserved c = record {
  put = next_put (λ (n : ℕ). 32 ∷ decimal n) c.args.numbers.now c.loop-number.number-index 0 c.args.out.now.items c.loop-number.out.items c.put_number.new.out.items (omega arith) c.loop-number.invariant.put c.in_ok-put_number.ensures.put;
  small = small_next c.args.numbers.now c.loop-number.number-index (omega arith) c.loop-number.invariant.small c.in_ok-put_number.ensures.small;
}
