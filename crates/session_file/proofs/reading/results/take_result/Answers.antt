use Rattle.std.proofs.Common.{sym}
use Rattle.devices.proofs.PutLaws.{handed_on}
use Rattle.session_file.proofs.StepLaws.{taken_halts, taken_breaks, taken_took}
use Rattle.session_file.proofs.reading.results.take_result.Goals as goal

pub returns-in_err-print-clause-value : goal.returns-in_err-print-clause-value
returns-in_err-print-clause-value g c = rw (handed_on c.from_residual.result _ c.from_residual.ensures.1) (taken_halts _ c.args.index _ c.in_err-print.field-0.0 c.in_err-print.ensures.value)

pub returns-in-Ok-Some-clause-value : goal.returns-in-Ok-Some-clause-value
returns-in-Ok-Some-clause-value g c = taken_took c.args.index _ c.in_ok-print.print _ c.in_ok-print.ensures.value (sym (rw c.in-Ok-Some.field-0-is at c.in-Ok-Some.ensures))

pub returns-in-Ok-None-clause-value : goal.returns-in-Ok-None-clause-value
returns-in-Ok-None-clause-value g c = taken_breaks c.args.index _ c.in_ok-print.print c.in_ok-print.ensures.value (sym (rw c.in-Ok-None.field-0-is at c.in-Ok-None.ensures))
