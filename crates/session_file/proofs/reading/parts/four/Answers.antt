use Rattle.devices.proofs.PutLaws.{handed_on}
use Rattle.session_file.proofs.FeedLaws.{four_took, four_stops}
use Rattle.session_file.proofs.reading.parts.four.Goals as goal

pub returns-clause-value : goal.returns-clause-value
returns-clause-value g c = four_took c.read_u32.result c.in_ok-pull.ensures.pulled.1 c.in_ok-pull.ensures.pulled.0 c.read_u32.ensures

pub returns-in_err-pull-clause-value : goal.returns-in_err-pull-clause-value
returns-in_err-pull-clause-value g c = rw (handed_on c.from_residual.result _ c.from_residual.ensures.1) (four_stops _ c.in_err-pull.field-0.0 c.in_err-pull.ensures.pulled)
