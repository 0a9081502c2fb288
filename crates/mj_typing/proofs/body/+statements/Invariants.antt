use Rattle.mj_typing.proofs.Walks.{StatementsLeft}
use Rattle.mj_typing.proofs.body.+statements.Given as goal

abbrev pub invariant-check_statements-loop-statement : goal.invariant-check_statements-loop-statement
invariant-check_statements-loop-statement g l = record {
  left : StatementsLeft g.A.Asking.stands g.A.Asking.halts l.scope l.statements.items l.fn.mistakes.items l.initial.asking l.statement-index l.mistakes.items l.asking;
  follows : g.A.Asking.follows l.initial.asking l.asking;
}
