use Rattle.std.proofs.Common.{ap, arith, map}
use Rattle.std.proofs.lemmas.Result.{err_from_is_err_and}
use Rattle.packed_files.proofs.Steps.{ended, goes_on}
use Rattle.packed_files.proofs.RunSteps.{fewer_left, memory_alone, no_run_yet, one_more_run, same_runs}
use Rattle.packed_files.proofs.runs.unpack_runs.Goals as goal

pub loop-rest-init : goal.loop-rest-init
loop-rest-init c = no_run_yet c.args.bytes.now _ (ap (map (λ r. r.now)) c.new-runs.ensures.items) (λ i. omega (arith, c.type_inv.bytes i))

pub loop-rest-preserved : goal.loop-rest-preserved
loop-rest-preserved c = one_more_run c.args.bytes.now c.loop-rest.rest.now c.in_ok-rest.rest.now _ _ c.in_ok-rest.ensures.added c.loop-rest.invariant

pub loop-rest-smaller : goal.loop-rest-smaller
loop-rest-smaller c = fewer_left c.args.bytes.now c.loop-rest.rest.now c.in_ok-rest.rest.now _ _ c.in_ok-rest.ensures.added c.loop-rest.invariant

pub returns-in_err-rest-clause-again : goal.returns-in_err-rest-clause-again
returns-in_err-rest-clause-again c =
    let p = err_from_is_err_and c.from_residual.result c.from_residual.ensures.1 in
    rw (p.1, p.2) (λ runs fit e. memory_alone c.args.bytes.now c.loop-rest.rest.now _ runs _ c.in_err-rest.field-0.0
    c.loop-rest.invariant (goes_on c.is_empty.result c.loop-rest.rest.now c.is_empty.ensures c.loop-rest-test.true) c.in_err-rest.ensures.refused fit e)

pub returns-clause-again : goal.returns-clause-again
returns-clause-again c = λ runs fit e. same_runs c.args.bytes.now c.loop-rest.rest.now _ runs
    c.loop-rest.invariant (ended c.is_empty.result c.loop-rest.rest.now c.is_empty.ensures c.loop-rest-test.false) fit e
