use Rattle.std.proofs.Common.{◌≡◌}
use Rattle.devices.proofs.PutLaws.{handed_on}
use Rattle.session_file.proofs.StepLaws.{record_halts_item, record_halts, record_took}
use Rattle.session_file.proofs.reading.records.read_record.Goals as goal

pub returns-in_err-item-clause-value : goal.returns-in_err-item-clause-value
returns-in_err-item-clause-value g c = rw (handed_on c.from_residual.result _ c.from_residual.ensures.1) (record_halts_item _ c.args.origin.now c.args.front.now c.in_err-item.field-0.0 c.in_err-item.ensures.value)

pub returns-in_err-rest-clause-value : goal.returns-in_err-rest-clause-value
returns-in_err-rest-clause-value g c = rw (handed_on c.from_residual-in_err-rest.result _ c.from_residual-in_err-rest.ensures.1) (record_halts c.args.origin.now c.args.front.now c.in_ok-item.item c.in_err-rest.field-0.0 c.in_ok-item.ensures.value c.in_err-rest.ensures.value)

pub returns-clause-value : goal.returns-clause-value
returns-clause-value g c =
    let k : c.item.inside.key ≡ c.in_ok-item.item.key = cc in
    let m : c.item.inside.mark ≡ c.in_ok-item.item.mark = cc in
    rw (c.new.ensures, k, m) (record_took c.args.origin.now c.args.front.now c.in_ok-item.item _ c.in_ok-item.ensures.value c.in_ok-rest.ensures.value)
