use Rattle.mj_phrases.specs.Seen.{items_in}
use Rattle.mj_phrases.proofs.Walks.{PartsLeft}
use Rattle.mj_phrases.proofs.walk.+expressions.Given as goal

abbrev pub invariant-check_all-loop-exp : goal.invariant-check_all-loop-exp
invariant-check_all-loop-exp g l = record {
  left : PartsLeft g.A.Asking.stands g.A.Asking.halts l.scope l.exps.items l.fn.mistakes.items l.initial.asking l.exp-index (items_in l.types) l.mistakes.items l.asking;
  follows : g.A.Asking.follows l.initial.asking l.asking;
}
