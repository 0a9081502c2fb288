use Rattle.devices.proofs.PutLaws.{handed_on}
use Rattle.std.proofs.Common.{◌≡◌, [], ltb, true, false, arith}
use Rattle.std.proofs.lemmas.Bool.{lt-ltb, le-ltb}
use Rattle.redgreen_files.specs.declared.fault.FileFault.TheVariants.{NoRoot}
use Rattle.redgreen_files.specs.Reading.{many_from, root_at, roots_at}
use Rattle.redgreen_files.proofs.FeedLaws.{after_first, after_refused, feeds_after}
use Rattle.redgreen_files.proofs.reading.records.read_roots.Goals as goal

pub returns-in_err-count-clause-value : goal.returns-in_err-count-clause-value
unfolding roots_at
returns-in_err-count-clause-value g c = rw (handed_on c.from_residual.result _ c.from_residual.ensures.1) (after_first _ (ltb 0) NoRoot (many_from root_at []) c.in_err-count.field-0.0 c.in_err-count.ensures.value)

pub returns-then-count-eq0-clause-value : goal.returns-then-count-eq0-clause-value
unfolding roots_at
returns-then-count-eq0-clause-value g c =
    let none : ltb 0 c.in_ok-count.count ≡ false = le-ltb _ _ (omega (arith, c.if-count-eq0.true)) in
    after_refused (ltb 0) NoRoot (many_from root_at []) c.in_ok-count.count c.in_ok-count.ensures.value none

pub returns-clause-value : goal.returns-clause-value
unfolding roots_at
returns-clause-value g c =
    let some : ltb 0 c.in_ok-count.count ≡ true = lt-ltb _ _ (omega (arith, c.if-count-eq0.false)) in
    feeds_after _ _ (ltb 0) NoRoot (many_from root_at []) c.in_ok-count.count (λ x. x.items) c.read_keys.result c.in_ok-count.ensures.value some c.read_keys.ensures.value
