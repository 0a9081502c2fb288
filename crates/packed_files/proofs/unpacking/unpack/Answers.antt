use Rattle.std.proofs.Common.{ap, arith}
use Rattle.std.proofs.lemmas.Result.{err_from_is_err_and}
use Rattle.named_files.specs.Projects.{sources_view}
use Rattle.packed_files.proofs.Steps.{ended, goes_on, none_yet, one_more, only_memory, same_files, shorter}
use Rattle.packed_files.proofs.unpacking.unpack.Goals as goal

pub loop-rest-init : goal.loop-rest-init
loop-rest-init c = none_yet c.args.bytes.now (sources_view c.new-files.result.items) (ap sources_view c.new-files.ensures.items) (λ i. omega (arith, c.type_inv.bytes i))

pub loop-rest-preserved : goal.loop-rest-preserved
loop-rest-preserved c = one_more c.args.bytes.now c.loop-rest.rest.now c.in_ok-rest.rest.now _ _ c.in_ok-rest.ensures.added c.loop-rest.invariant

pub loop-rest-smaller : goal.loop-rest-smaller
loop-rest-smaller c = shorter c.args.bytes.now c.loop-rest.rest.now c.in_ok-rest.rest.now _ _ c.in_ok-rest.ensures.added c.loop-rest.invariant

pub returns-in_err-rest-clause-again : goal.returns-in_err-rest-clause-again
returns-in_err-rest-clause-again c =
    let p = err_from_is_err_and c.from_residual.result c.from_residual.ensures.1 in
    rw (p.1, p.2) (λ files fit e. only_memory c.args.bytes.now c.loop-rest.rest.now (sources_view c.loop-rest.files.items) files _ c.in_err-rest.field-0.0
    c.loop-rest.invariant (goes_on c.is_empty.result c.loop-rest.rest.now c.is_empty.ensures c.loop-rest-test.true) c.in_err-rest.ensures.refused fit e)

pub returns-clause-again : goal.returns-clause-again
returns-clause-again c = λ files fit e. same_files c.args.bytes.now c.loop-rest.rest.now (sources_view c.loop-rest.files.items) files
    c.loop-rest.invariant (ended c.is_empty.result c.loop-rest.rest.now c.is_empty.ensures c.loop-rest-test.false) fit e
