use Rattle.mj_typing.proofs.Walks.{TypesLeft}
use Rattle.mj_typing.proofs.check.check_types.Given as goal

abbrev pub invariant-loop-variable : goal.invariant-loop-variable
invariant-loop-variable g l = record {
  left : TypesLeft g.A.Asking.stands g.A.Asking.halts l.variables l.fn.mistakes.items l.initial.asking l.variable-index l.mistakes.items l.asking;
  follows : g.A.Asking.follows l.initial.asking l.asking;
}
