use Rattle.devices.proofs.PutLaws.{handed_on}
use Rattle.redgreen_files.specs.Spelling.{version}
use Rattle.redgreen_files.specs.declared.fault.FileFault.TheVariants.{Truncated, Version}
use Rattle.redgreen_files.specs.Reading.{exact_at, start_at}
use Rattle.redgreen_files.proofs.FeedLaws.{pair_first, feeds_pair}
use Rattle.redgreen_files.proofs.reading.files.read_start.Goals as goal

pub returns-in_err-exact-clause-value : goal.returns-in_err-exact-clause-value
unfolding start_at
returns-in_err-exact-clause-value g c = rw (handed_on c.from_residual.result _ c.from_residual.ensures.1) (pair_first _ _ (exact_at version Truncated Version) c.in_err-exact.field-0.0 c.in_err-exact.ensures.value)

pub returns-clause-value : goal.returns-clause-value
unfolding start_at
returns-clause-value g c = feeds_pair _ _ (exact_at version Truncated Version) (λ x. tt) c.exact-2.result c.in_ok-exact.ensures.value c.exact-2.ensures.value
