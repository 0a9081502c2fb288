use Rattle.std.proofs.Common.{◌≡◌, ◌+◌, ◌-◌, ◌≤◌, length, drop}
use Rattle.mj_lexer.specs.Fronts.{after_comment}
use Rattle.mj_lexer.proofs.front.comment_len.Given as goal

abbrev pub invariant-loop-depth : goal.invariant-loop-depth
invariant-loop-depth l = record {
  same : after_comment l.depth (drop l.i l.text) ≡ after_comment 1 l.text;
  within : l.i ≤ length l.text;
  small : l.depth ≤ 1 + l.i;
}

abbrev pub decreases-loop-depth : goal.decreases-loop-depth
decreases-loop-depth l = length l.text - l.i
