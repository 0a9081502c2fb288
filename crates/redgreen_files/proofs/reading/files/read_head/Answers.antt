use Rattle.devices.proofs.PutLaws.{handed_on}
use Rattle.redgreen_files.specs.Reading.{number_at, slice_at, head_at}
use Rattle.redgreen_files.proofs.FeedLaws.{pair_took, pair_first, pair_second}
use Rattle.redgreen_files.proofs.reading.files.read_head.Goals as goal

pub returns-in_err-read_start-clause-value : goal.returns-in_err-read_start-clause-value
unfolding head_at
returns-in_err-read_start-clause-value g c = rw (handed_on c.from_residual.result _ c.from_residual.ensures.1) (pair_first _ _ (slice_at 32) c.in_err-read_start.field-0.0 (pair_first _ _ number_at c.in_err-read_start.field-0.0 c.in_err-read_start.ensures.value))

pub returns-in_err-number-clause-value : goal.returns-in_err-number-clause-value
unfolding head_at
returns-in_err-number-clause-value g c = rw (handed_on c.from_residual-in_err-number.result _ c.from_residual-in_err-number.ensures.1) (pair_first _ _ (slice_at 32) c.in_err-number.field-0.0 (pair_second number_at c.in_err-number.field-0.0 c.in_ok-read_start.ensures.value c.in_err-number.ensures.value))

pub returns-in_err-link-clause-value : goal.returns-in_err-link-clause-value
unfolding head_at
returns-in_err-link-clause-value g c = rw (handed_on c.from_residual-in_err-link.result _ c.from_residual-in_err-link.ensures.1) (pair_second (slice_at 32) c.in_err-link.field-0.0 (pair_took (tt, tt) c.in_ok-number.number c.in_ok-read_start.ensures.value c.in_ok-number.ensures.value) c.in_err-link.ensures.value)

pub returns-clause-value : goal.returns-clause-value
unfolding head_at
returns-clause-value g c = pair_took ((tt, tt), c.in_ok-number.number) c.in_ok-link.link (pair_took (tt, tt) c.in_ok-number.number c.in_ok-read_start.ensures.value c.in_ok-number.ensures.value) c.in_ok-link.ensures.value
