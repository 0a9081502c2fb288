use Rattle.std.proofs.lemmas.Result.{err_from_is_err_and}
use Rattle.tree_skipping.specs.Skipping.{exp_left}
use Rattle.tree_skipping.proofs.Skipped.{exp_by_tag, goes_on, ends, is_done}
use Rattle.tree_skipping.proofs.expressions.+skip_expressions.Goals as goal

pub skip_all_exps-returns-in_err-rest : goal.skip_all_exps-returns-in_err-rest
skip_all_exps-returns-in_err-rest t c =
    let p = err_from_is_err_and c.from_residual.result c.from_residual.ensures.1 in
    rw (p.1, p.2) (ends c.in_err-rest.field-0.0 (exp_left c.args.room) c.args.count c.loop.counter c.loop.rest.now _ c.loop-test.true c.in_err-rest.ensures c.loop.invariant)

pub skip_all_exps-loop-preserved : goal.skip_all_exps-loop-preserved
skip_all_exps-loop-preserved t c = goes_on (exp_left c.args.room) c.args.count c.loop.counter c.loop.rest.now c.in_ok-rest.rest.now _ c.loop-test.true c.in_ok-rest.ensures c.loop.invariant

pub skip_all_exps-returns : goal.skip_all_exps-returns
skip_all_exps-returns t c = is_done (exp_left c.args.room) c.args.count c.loop.counter c.loop.rest.now _ c.loop-test.false c.loop.invariant

pub skip_exp-returns : goal.skip_exp-returns
skip_exp-returns t c = rw (exp_by_tag c.args.room _ c.args.bytes.now _ _ _ c.if-room-eq0.false c.in_ok-tag.ensures c.in-Some.ensures c.in_ok-rest.ensures) c.skip_exp_body.ensures
