use Rattle.std.proofs.Common.{refl, arith}
use Rattle.redgreen_words.proofs.Numbers.{no_number_at, numbers_more}
use Rattle.redgreen_words.proofs.lines.numbers_of.Goals as goal

pub returns-in-None : goal.returns-in-None
returns-in-None c = (c.loop-i.i, refl, no_number_at (λ x. x.now) c.args.items.now c.loop-i.i _ (omega arith) c.in-None.ensures)

pub loop-i-preserved : goal.loop-i-preserved
loop-i-preserved c =
    let more = numbers_more (λ x. x.now) c.args.items.now c.loop-i.i _ c.loop-i.numbers.items c.push.new.self.items c.in-Some.number (omega arith) c.loop-i.invariant.are c.loop-i.invariant.small c.in-Some.ensures.1 c.in-Some.ensures.0 c.in_ok-push-in-Some.ensures.items in
    record { are = more.0; small = more.1 }
