use Rattle.std.proofs.Common.{sym}
use Rattle.devices.proofs.PutLaws.{handed_on}
use Rattle.session_file.proofs.StepLaws.{result_halts_print, result_halts_count, result_halts_text, result_breaks, result_took}
use Rattle.session_file.proofs.reading.results.read_result.Goals as goal

pub returns-in_err-print-clause-value : goal.returns-in_err-print-clause-value
returns-in_err-print-clause-value g c = rw (handed_on c.from_residual.result _ c.from_residual.ensures.1) (result_halts_print _ c.args.index c.args.kind c.in_err-print.field-0.0 c.in_err-print.ensures.value)

pub returns-in_err-count-clause-value : goal.returns-in_err-count-clause-value
returns-in_err-count-clause-value g c = rw (handed_on c.from_residual-in_err-count.result _ c.from_residual-in_err-count.ensures.1) (result_halts_count c.args.index c.args.kind c.in_ok-print.print c.in_err-count.field-0.0 c.in_ok-print.ensures.value c.in_err-count.ensures.value)

pub returns-in_err-text-clause-value : goal.returns-in_err-text-clause-value
returns-in_err-text-clause-value g c = rw (handed_on c.from_residual-in_err-text.result _ c.from_residual-in_err-text.ensures.1) (result_halts_text c.args.index c.args.kind c.in_ok-print.print c.in_ok-count.count c.in_err-text.field-0.0 c.in_ok-print.ensures.value c.in_ok-count.ensures.value c.in_err-text.ensures.value)

pub returns-in-Ok-Some-clause-value : goal.returns-in-Ok-Some-clause-value
returns-in-Ok-Some-clause-value g c = result_took c.args.index c.args.kind c.in_ok-print.print c.in_ok-count.count c.in_ok-text.text.items _ c.in_ok-print.ensures.value c.in_ok-count.ensures.value c.in_ok-text.ensures.value (sym (rw c.in-Ok-Some.field-0-is at c.in-Ok-Some.ensures))

pub returns-in-Ok-None-clause-value : goal.returns-in-Ok-None-clause-value
returns-in-Ok-None-clause-value g c = result_breaks c.args.index c.args.kind c.in_ok-print.print c.in_ok-count.count c.in_ok-text.text.items c.in_ok-print.ensures.value c.in_ok-count.ensures.value c.in_ok-text.ensures.value (sym (rw c.in-Ok-None.field-0-is at c.in-Ok-None.ensures))
