use Rattle.std.proofs.lemmas.Result.{err_from_is_err_and}
use Rattle.tree_skipping.specs.Skipping.{variable_left}
use Rattle.tree_skipping.proofs.Skipped.{goes_on, ends, is_done}
use Rattle.tree_skipping.proofs.parts.skip_all_variables.Goals as goal

pub returns-in_err-rest : goal.returns-in_err-rest
returns-in_err-rest c =
    let p = err_from_is_err_and c.from_residual.result c.from_residual.ensures.1 in
    rw (p.1, p.2) (ends c.in_err-rest.field-0.0 variable_left c.args.count c.loop.counter c.loop.rest.now _ c.loop-test.true c.in_err-rest.ensures c.loop.invariant)

pub loop-preserved : goal.loop-preserved
loop-preserved c = goes_on variable_left c.args.count c.loop.counter c.loop.rest.now c.in_ok-rest.rest.now _ c.loop-test.true c.in_ok-rest.ensures c.loop.invariant

pub returns : goal.returns
returns c = is_done variable_left c.args.count c.loop.counter c.loop.rest.now _ c.loop-test.false c.loop.invariant
