use Rattle.std.proofs.Common.{◌∙◌, arith}
use Rattle.mj_lexer.proofs.Numbers.{next_digit}
use Rattle.mj_lexer.proofs.front.number.Goals as goal

pub loop-d-preserved : goal.loop-d-preserved
loop-d-preserved c = record {
  same = next_digit c.loop-d.value _ c.loop-d.d-index _ c.loop-d-test.true (omega arith) ∙ c.loop-d.invariant.same;
  small = omega arith;
}
