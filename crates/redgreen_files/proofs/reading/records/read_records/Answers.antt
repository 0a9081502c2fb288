use Rattle.devices.proofs.PutLaws.{handed_on}
use Rattle.std.proofs.Common.{refl, [], map}
use Rattle.redgreen_files.specs.declared.fault.FileFault.TheVariants.{Truncated}
use Rattle.redgreen_files.specs.Spelling.{value_of}
use Rattle.redgreen_files.specs.Reading.{any_number, many_from, record_at, records_at}
use Rattle.redgreen_files.proofs.FeedLaws.{after_first, feeds_after}
use Rattle.redgreen_files.proofs.reading.records.read_records.Goals as goal

pub returns-in_err-count-clause-value : goal.returns-in_err-count-clause-value
unfolding records_at
returns-in_err-count-clause-value g c = rw (handed_on c.from_residual.result _ c.from_residual.ensures.1) (after_first _ any_number Truncated (many_from record_at []) c.in_err-count.field-0.0 c.in_err-count.ensures.value)

pub returns-clause-value : goal.returns-clause-value
unfolding records_at
returns-clause-value g c = feeds_after _ _ any_number Truncated (many_from record_at []) c.in_ok-count.count (λ x. map value_of x.items) c.read_each.result c.in_ok-count.ensures.value refl c.read_each.ensures.value
