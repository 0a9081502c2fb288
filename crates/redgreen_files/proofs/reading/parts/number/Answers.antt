use Rattle.devices.proofs.PutLaws.{handed_on}
use Rattle.redgreen_files.proofs.FeedLaws.{number_took, number_stops}
use Rattle.redgreen_files.proofs.reading.parts.number.Goals as goal

pub returns-clause-value : goal.returns-clause-value
returns-clause-value g c = number_took c.read_u64.result c.in_ok-pull.ensures.pulled.1 c.in_ok-pull.ensures.pulled.0 c.read_u64.ensures

pub returns-in_err-pull-clause-value : goal.returns-in_err-pull-clause-value
returns-in_err-pull-clause-value g c = rw (handed_on c.from_residual.result _ c.from_residual.ensures.1) (number_stops _ c.in_err-pull.field-0.0 c.in_err-pull.ensures.pulled)
