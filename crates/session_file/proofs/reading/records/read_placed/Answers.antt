use Rattle.std.proofs.Common.{sym}
use Rattle.devices.proofs.PutLaws.{handed_on}
use Rattle.session_file.proofs.StepLaws.{placed_halts, placed_breaks, placed_took}
use Rattle.session_file.proofs.reading.records.read_placed.Goals as goal

pub returns-in_err-item-clause-value : goal.returns-in_err-item-clause-value
returns-in_err-item-clause-value g c = rw (handed_on c.from_residual.result _ c.from_residual.ensures.1) (placed_halts _ c.args.front.now c.in_err-item.field-0.0 c.in_err-item.ensures.value)

pub returns-in-Ok-clause-value : goal.returns-in-Ok-clause-value
returns-in-Ok-clause-value g c = placed_took c.args.front.now c.in_ok-item.item c.in_ok-item.ensures.value (sym c.in-Ok.ensures.value)

pub returns-in-Err-clause-value : goal.returns-in-Err-clause-value
returns-in-Err-clause-value g c = placed_breaks c.args.front.now c.in_ok-item.item c.in-Err.fault c.in_ok-item.ensures.value (sym c.in-Err.ensures.value)
