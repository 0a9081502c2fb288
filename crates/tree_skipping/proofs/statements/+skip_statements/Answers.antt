use Rattle.std.proofs.lemmas.Result.{err_from_is_err_and}
use Rattle.tree_skipping.specs.Skipping.{stmt_left}
use Rattle.tree_skipping.proofs.Skipped.{stmt_by_tag, goes_on, ends, is_done}
use Rattle.tree_skipping.proofs.statements.+skip_statements.Goals as goal

pub skip_all_stmts-returns-in_err-rest : goal.skip_all_stmts-returns-in_err-rest
skip_all_stmts-returns-in_err-rest t c =
    let p = err_from_is_err_and c.from_residual.result c.from_residual.ensures.1 in
    rw (p.1, p.2) (ends c.in_err-rest.field-0.0 (stmt_left c.args.room) c.args.count c.loop.counter c.loop.rest.now _ c.loop-test.true c.in_err-rest.ensures c.loop.invariant)

pub skip_all_stmts-loop-preserved : goal.skip_all_stmts-loop-preserved
skip_all_stmts-loop-preserved t c = goes_on (stmt_left c.args.room) c.args.count c.loop.counter c.loop.rest.now c.in_ok-rest.rest.now _ c.loop-test.true c.in_ok-rest.ensures c.loop.invariant

pub skip_all_stmts-returns : goal.skip_all_stmts-returns
skip_all_stmts-returns t c = is_done (stmt_left c.args.room) c.args.count c.loop.counter c.loop.rest.now _ c.loop-test.false c.loop.invariant

pub skip_stmt-returns : goal.skip_stmt-returns
skip_stmt-returns t c = rw (stmt_by_tag c.args.room _ c.args.bytes.now _ _ _ c.if-room-eq0.false c.in_ok-tag.ensures c.in-Some.ensures c.in_ok-rest.ensures) c.skip_stmt_body.ensures
