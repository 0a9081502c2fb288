use Rattle.devices.proofs.PutLaws.{handed_on}
use Rattle.std.proofs.Common.{refl, []}
use Rattle.redgreen_files.specs.declared.fault.FileFault.TheVariants.{Truncated}
use Rattle.redgreen_files.specs.Reading.{any_number, many_from, number_part, reads_at}
use Rattle.redgreen_files.proofs.FeedLaws.{after_first, feeds_after}
use Rattle.redgreen_files.proofs.reading.items.read_reads.Goals as goal

pub returns-in_err-count-clause-value : goal.returns-in_err-count-clause-value
unfolding reads_at
returns-in_err-count-clause-value g c = rw (handed_on c.from_residual.result _ c.from_residual.ensures.1) (after_first _ any_number Truncated (many_from number_part []) c.in_err-count.field-0.0 c.in_err-count.ensures.value)

pub returns-clause-value : goal.returns-clause-value
unfolding reads_at
returns-clause-value g c = feeds_after _ _ any_number Truncated (many_from number_part []) c.in_ok-count.count (λ x. x.items) c.read_places.result c.in_ok-count.ensures.value refl c.read_places.ensures.value
