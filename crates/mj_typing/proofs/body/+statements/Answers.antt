use Rattle.std.proofs.Common.{rules}
use Rattle.mj_tree.specs.Views.{stmts_view}
use Rattle.mj_phrases.specs.Steps.{Aborts}
use Rattle.mj_typing.specs.Bodies.{statement_step, statements_step}
use Rattle.mj_typing.proofs.Views.{stmt_view-Assign, stmt_view-Store}
use Rattle.mj_typing.proofs.Walks.{statements_more, statements_up, statements_done}
use Rattle.mj_typing.proofs.body.+statements.Goals as goal

pub check_statement-returns-in-Assign-clause-ok : goal.check_statement-returns-in-Assign-clause-ok
unfolding statement_step
check_statement-returns-in-Assign-clause-ok g t c =
    rw (c.in-Assign.is, stmt_view-Assign c.in-Assign.mark c.in-Assign.name c.in-Assign.name_mark c.in-Assign.value) c.check_assign.ensures.ok

pub check_statement-returns-in-Assign-clause-err : goal.check_statement-returns-in-Assign-clause-err
unfolding statement_step
check_statement-returns-in-Assign-clause-err g t c =
    rw (c.in-Assign.is, stmt_view-Assign c.in-Assign.mark c.in-Assign.name c.in-Assign.name_mark c.in-Assign.value) c.check_assign.ensures.err

pub check_statement-returns-in-Store-clause-ok : goal.check_statement-returns-in-Store-clause-ok
unfolding statement_step
check_statement-returns-in-Store-clause-ok g t c =
    rw (c.in-Store.is, stmt_view-Store c.in-Store.mark c.in-Store.name c.in-Store.name_mark c.in-Store.index c.in-Store.value) c.check_store.ensures.ok

pub check_statement-returns-in-Store-clause-err : goal.check_statement-returns-in-Store-clause-err
unfolding statement_step
check_statement-returns-in-Store-clause-err g t c =
    rw (c.in-Store.is, stmt_view-Store c.in-Store.mark c.in-Store.name c.in-Store.name_mark c.in-Store.index c.in-Store.value) c.check_store.ensures.err

pub check_statements-returns-in_err-check_statement-clause-err : goal.check_statements-returns-in_err-check_statement-clause-err
check_statements-returns-in_err-check_statement-clause-err g t c =
    let h : Aborts g.A.Asking.stands g.A.Asking.halts (statements_step c.args.scope.now (stmts_view c.args.statements.now.items) c.args.mistakes.now.items) c.args.asking.now c.in_err-check_statement.field-0.0 c.check_statement.new.asking =
    statements_up g.A.Asking.stands g.A.Asking.halts c.args.scope.now c.args.statements.now.items c.args.mistakes.now.items c.args.asking.now _ _ _ _ _ _ c.loop-statement.invariant.left (rw c.deref-statement-items.ensures.value at c.loop-statement-test.true) (rw c.deref-statement-items.ensures.value at c.statement-item.is) c.in_err-check_statement.ensures.err in
    search rules

pub check_statements-returns-in_err-check_statement-clause-follows : goal.check_statements-returns-in_err-check_statement-clause-follows
check_statements-returns-in_err-check_statement-clause-follows g t c = g.met.A.Asking.transitive _ _ _ c.loop-statement.invariant.follows c.in_err-check_statement.ensures.follows

pub check_statements-loop-statement-preserved : goal.check_statements-loop-statement-preserved
check_statements-loop-statement-preserved g t c = record {
  left = statements_more g.A.Asking.stands g.A.Asking.halts c.args.scope.now c.args.statements.now.items c.args.mistakes.now.items c.args.asking.now _ _ _ _ _ _ c.loop-statement.invariant.left (rw c.deref-statement-items.ensures.value at c.loop-statement-test.true) (rw c.deref-statement-items.ensures.value at c.statement-item.is) c.in_ok-check_statement.ensures.ok;
  follows = g.met.A.Asking.transitive _ _ _ c.loop-statement.invariant.follows c.in_ok-check_statement.ensures.follows;
}

pub check_statements-returns-clause-ok : goal.check_statements-returns-clause-ok
check_statements-returns-clause-ok g t c = statements_done g.A.Asking.stands g.A.Asking.halts c.args.scope.now c.args.statements.now.items c.args.mistakes.now.items c.args.asking.now _ _ _ c.loop-statement.invariant.left (rw c.deref-statement-items.ensures.value at c.loop-statement-test.false)
