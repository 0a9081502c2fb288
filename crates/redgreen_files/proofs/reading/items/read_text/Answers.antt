use Rattle.devices.proofs.PutLaws.{handed_on}
use Rattle.std.proofs.Common.{refl}
use Rattle.redgreen_files.specs.declared.fault.FileFault.TheVariants.{Truncated}
use Rattle.redgreen_files.specs.Reading.{any_number, slice_at, text_at}
use Rattle.redgreen_files.proofs.FeedLaws.{after_took, after_first, after_second}
use Rattle.redgreen_files.proofs.reading.items.read_text.Goals as goal

pub returns-in_err-count-clause-value : goal.returns-in_err-count-clause-value
unfolding text_at
returns-in_err-count-clause-value g c = rw (handed_on c.from_residual.result _ c.from_residual.ensures.1) (after_first _ any_number Truncated slice_at c.in_err-count.field-0.0 c.in_err-count.ensures.value)

pub returns-in_err-value-clause-value : goal.returns-in_err-value-clause-value
unfolding text_at
returns-in_err-value-clause-value g c = rw (handed_on c.from_residual-in_err-value.result _ c.from_residual-in_err-value.ensures.1) (after_second any_number Truncated slice_at c.in_ok-count.count c.in_err-value.field-0.0 c.in_ok-count.ensures.value refl c.in_err-value.ensures.value)

pub returns-clause-value : goal.returns-clause-value
unfolding text_at
returns-clause-value g c = rw c.from_vec.ensures (after_took any_number Truncated slice_at c.in_ok-count.count c.in_ok-value.value.items c.in_ok-count.ensures.value refl c.in_ok-value.ensures.value)
