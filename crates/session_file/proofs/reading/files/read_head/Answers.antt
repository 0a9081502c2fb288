use Rattle.std.proofs.Common.{sym}
use Rattle.devices.proofs.PutLaws.{handed_on}
use Rattle.session_file.proofs.StepLaws.{head_halts_start, head_halts_version, head_other_version, head_halts_number, head_other_number, head_halts_link, head_halts_count, head_took}
use Rattle.session_file.proofs.reading.files.read_head.Goals as goal

pub returns-in_err-read_start-clause-value : goal.returns-in_err-read_start-clause-value
returns-in_err-read_start-clause-value g c = rw (handed_on c.from_residual.result _ c.from_residual.ensures.1) (head_halts_start _ c.in_err-read_start.field-0.0 c.in_err-read_start.ensures.value)

pub returns-in_err-version-clause-value : goal.returns-in_err-version-clause-value
returns-in_err-version-clause-value g c = rw (handed_on c.from_residual-in_err-version.result _ c.from_residual-in_err-version.ensures.1) (head_halts_version c.in_err-version.field-0.0 c.in_ok-read_start.ensures.value c.in_err-version.ensures.value)

pub returns-in_default-clause-value : goal.returns-in_default-clause-value
returns-in_default-clause-value g c = head_other_version c.in_ok-version.version c.in_ok-read_start.ensures.value c.in_ok-version.ensures.value (sym c.in_default.ensures)

pub returns-in_err-number-clause-value : goal.returns-in_err-number-clause-value
returns-in_err-number-clause-value g c = rw (handed_on c.from_residual-in_err-number.result _ c.from_residual-in_err-number.ensures.1) (head_halts_number c.in_ok-version.version c.in-Some.terms c.in_err-number.field-0.0 c.in_ok-read_start.ensures.value c.in_ok-version.ensures.value (sym c.in-Some.ensures) c.in_err-number.ensures.value)

pub returns-then-number-gt-MOST-clause-value : goal.returns-then-number-gt-MOST-clause-value
returns-then-number-gt-MOST-clause-value g c = head_other_number c.in_ok-version.version c.in-Some.terms c.in_ok-number.number c.in_ok-read_start.ensures.value c.in_ok-version.ensures.value (sym c.in-Some.ensures) c.in_ok-number.ensures.value c.if-number-gt-MOST.true

pub returns-in_err-link-clause-value : goal.returns-in_err-link-clause-value
returns-in_err-link-clause-value g c = rw (handed_on c.from_residual-in_err-link.result _ c.from_residual-in_err-link.ensures.1) (head_halts_link c.in_ok-version.version c.in-Some.terms c.in_ok-number.number c.in_err-link.field-0.0 c.in_ok-read_start.ensures.value c.in_ok-version.ensures.value (sym c.in-Some.ensures) c.in_ok-number.ensures.value c.if-number-gt-MOST.false c.in_err-link.ensures.value)

pub returns-in_err-count-clause-value : goal.returns-in_err-count-clause-value
returns-in_err-count-clause-value g c = rw (handed_on c.from_residual-in_err-count.result _ c.from_residual-in_err-count.ensures.1) (head_halts_count c.in_ok-version.version c.in-Some.terms c.in_ok-number.number c.in_ok-link.link c.in_err-count.field-0.0 c.in_ok-read_start.ensures.value c.in_ok-version.ensures.value (sym c.in-Some.ensures) c.in_ok-number.ensures.value c.if-number-gt-MOST.false c.in_ok-link.ensures.value c.in_err-count.ensures.value)

pub returns-clause-value : goal.returns-clause-value
returns-clause-value g c = head_took c.in_ok-version.version c.in-Some.terms c.in_ok-number.number c.in_ok-link.link c.in_ok-count.count c.in_ok-read_start.ensures.value c.in_ok-version.ensures.value (sym c.in-Some.ensures) c.in_ok-number.ensures.value c.if-number-gt-MOST.false c.in_ok-link.ensures.value c.in_ok-count.ensures.value
