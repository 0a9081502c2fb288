use Rattle.devices.proofs.PutLaws.{handed_on}
use Rattle.redgreen_files.proofs.FeedLaws.{place_took, place_first}
use Rattle.redgreen_files.proofs.reading.marks.read_place.Goals as goal

pub returns-in_err-flag-clause-value : goal.returns-in_err-flag-clause-value
returns-in_err-flag-clause-value g c = rw (handed_on c.from_residual.result _ c.from_residual.ensures.1) (place_first _ c.args.fault c.in_err-flag.field-0.0 c.in_err-flag.ensures.value)

pub returns-clause-value : goal.returns-clause-value
returns-clause-value g c = place_took _ _ c.args.fault c.in_ok-flag.flag (λ x. x) c.read_after.result c.in_ok-flag.ensures.value c.read_after.ensures.value
