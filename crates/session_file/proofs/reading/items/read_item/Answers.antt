use Rattle.std.proofs.Common.{sym}
use Rattle.devices.proofs.PutLaws.{handed_on}
use Rattle.session_file.proofs.StepLaws.{item_halts_kind, item_halts_class, item_halts_member, item_halts_mark, item_breaks, item_took}
use Rattle.session_file.proofs.reading.items.read_item.Goals as goal

pub returns-in_err-kind-clause-value : goal.returns-in_err-kind-clause-value
returns-in_err-kind-clause-value g c = rw (handed_on c.from_residual.result _ c.from_residual.ensures.1) (item_halts_kind _ c.args.index c.in_err-kind.field-0.0 c.in_err-kind.ensures.value)

pub returns-in_err-class_len-clause-value : goal.returns-in_err-class_len-clause-value
returns-in_err-class_len-clause-value g c = rw (handed_on c.from_residual-in_err-class_len.result _ c.from_residual-in_err-class_len.ensures.1) (item_halts_class c.args.index c.in_ok-kind.kind c.in_err-class_len.field-0.0 c.in_ok-kind.ensures.value c.in_err-class_len.ensures.value)

pub returns-in_err-member_len-clause-value : goal.returns-in_err-member_len-clause-value
returns-in_err-member_len-clause-value g c = rw (handed_on c.from_residual-in_err-member_len.result _ c.from_residual-in_err-member_len.ensures.1) (item_halts_member c.args.index c.in_ok-kind.kind _ c.in_err-member_len.field-0.0 c.in_ok-kind.ensures.value c.in_ok-class_len.ensures.value c.in_err-member_len.ensures.value)

pub returns-in_err-mark-clause-value : goal.returns-in_err-mark-clause-value
returns-in_err-mark-clause-value g c = rw (handed_on c.from_residual-in_err-mark.result _ c.from_residual-in_err-mark.ensures.1) (item_halts_mark c.args.index c.in_ok-kind.kind _ _ c.in_err-mark.field-0.0 c.in_ok-kind.ensures.value c.in_ok-class_len.ensures.value c.in_ok-member_len.ensures.value c.in_err-mark.ensures.value)

pub returns-in-Ok-Some-clause-value : goal.returns-in-Ok-Some-clause-value
returns-in-Ok-Some-clause-value g c = item_took c.args.index c.in_ok-kind.kind _ _ c.in_ok-mark.mark _ c.in_ok-kind.ensures.value c.in_ok-class_len.ensures.value c.in_ok-member_len.ensures.value c.in_ok-mark.ensures.value (sym (rw c.in-Ok-Some.field-0-is at c.in-Ok-Some.ensures))

pub returns-in-Ok-None-clause-value : goal.returns-in-Ok-None-clause-value
returns-in-Ok-None-clause-value g c = item_breaks c.args.index c.in_ok-kind.kind _ _ c.in_ok-mark.mark c.in_ok-kind.ensures.value c.in_ok-class_len.ensures.value c.in_ok-member_len.ensures.value c.in_ok-mark.ensures.value (sym (rw c.in-Ok-None.field-0-is at c.in-Ok-None.ensures))
