use Rattle.std.proofs.Common.{sym, ◌∙◌, arith}
use Rattle.mj_lexer.proofs.Comments.{at_end, at_opens, at_closes, at_same}
use Rattle.mj_lexer.proofs.front.comment_len.Goals as goal

pub returns-then-text-i-lt2 : goal.returns-then-text-i-lt2
returns-then-text-i-lt2 c = sym c.loop-depth.invariant.same ∙ at_end _ _ _ c.loop-depth-test.true c.if-text-i-lt2.true

pub loop-depth-preserved-then-opens : goal.loop-depth-preserved-then-opens
loop-depth-preserved-then-opens c = record {
  same = at_opens _ _ _ c.loop-depth-test.true c.if-text-i-lt2.false (sym c.opens.ensures ∙ c.if-opens.true) ∙ c.loop-depth.invariant.same;
  within = omega arith;
  small = omega arith;
}

pub loop-depth-preserved-then-closes : goal.loop-depth-preserved-then-closes
loop-depth-preserved-then-closes c = record {
  same = at_closes _ _ _ c.loop-depth-test.true c.if-text-i-lt2.false (sym c.opens.ensures ∙ c.if-opens.false) (sym c.closes.ensures ∙ c.if-closes.true) ∙ c.loop-depth.invariant.same;
  within = omega arith;
  small = omega arith;
}

pub loop-depth-preserved : goal.loop-depth-preserved
loop-depth-preserved c = record {
  same = at_same _ _ _ c.loop-depth-test.true c.if-text-i-lt2.false (sym c.opens.ensures ∙ c.if-opens.false) (sym c.closes.ensures ∙ c.if-closes.false) ∙ c.loop-depth.invariant.same;
  within = omega arith;
  small = omega arith;
}
