use Rattle.devices.proofs.PutLaws.{handed_on}
use Rattle.redgreen_files.proofs.FeedLaws.{bytes_took, bytes_stops}
use Rattle.redgreen_files.proofs.reading.parts.digest.Goals as goal

pub returns-clause-value : goal.returns-clause-value
returns-clause-value g c = bytes_took 32 c.in_ok-pull.ensures.pulled.1 c.in_ok-pull.ensures.pulled.0

pub returns-in_err-pull-clause-value : goal.returns-in_err-pull-clause-value
returns-in_err-pull-clause-value g c = rw (handed_on c.from_residual.result _ c.from_residual.ensures.1) (bytes_stops _ 32 c.in_err-pull.field-0.0 c.in_err-pull.ensures.pulled)
