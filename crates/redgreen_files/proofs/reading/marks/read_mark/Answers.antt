use Rattle.devices.proofs.PutLaws.{handed_on}
use Rattle.redgreen_files.proofs.FeedLaws.{mark_took, mark_first, mark_second, mark_breaks}
use Rattle.std.proofs.Common.{sym}
use Rattle.redgreen_files.proofs.reading.marks.read_mark.Goals as goal

pub returns-in_err-kind-clause-value : goal.returns-in_err-kind-clause-value
returns-in_err-kind-clause-value g c = rw (handed_on c.from_residual.result _ c.from_residual.ensures.1) (mark_first _ c.args.i c.in_err-kind.field-0.0 c.in_err-kind.ensures.value)

pub returns-in_err-previous-clause-value : goal.returns-in_err-previous-clause-value
returns-in_err-previous-clause-value g c = rw (handed_on c.from_residual-in_err-previous.result _ c.from_residual-in_err-previous.ensures.1) (mark_second c.args.i c.in_ok-kind.kind c.in_err-previous.field-0.0 c.in_ok-kind.ensures.value c.in_err-previous.ensures.value)

pub returns-in-Some-clause-value : goal.returns-in-Some-clause-value
returns-in-Some-clause-value g c = mark_took c.args.i c.in_ok-kind.kind c.in_ok-previous.previous c.in-Some.mark c.in_ok-kind.ensures.value c.in_ok-previous.ensures.value (sym c.in-Some.ensures)

pub returns-in-None-clause-value : goal.returns-in-None-clause-value
returns-in-None-clause-value g c = mark_breaks c.args.i c.in_ok-kind.kind c.in_ok-previous.previous c.in_ok-kind.ensures.value c.in_ok-previous.ensures.value (sym c.in-None.ensures)
