use Rattle.devices.proofs.PutLaws.{handed_on}
use Rattle.session_file.proofs.StepLaws.{body_halts_head, body_halts_records, body_took, body_is}
use Rattle.session_file.proofs.reading.files.read_body.Goals as goal

pub returns-in_err-head-clause-value : goal.returns-in_err-head-clause-value
returns-in_err-head-clause-value g c = rw (handed_on c.from_residual.result _ c.from_residual.ensures.1) (body_halts_head _ _ c.in_err-head.field-0.0 c.in_err-head.ensures.value)

pub returns-in_err-records-clause-value : goal.returns-in_err-records-clause-value
returns-in_err-records-clause-value g c = rw (handed_on c.from_residual-in_err-records.result _ c.from_residual-in_err-records.ensures.1) (body_halts_records _ _ c.in_err-records.field-0.0 c.in_ok-head.ensures.value (rw c.new-origin.ensures at c.in_err-records.ensures.value))

pub of_as-requires-clause-number : goal.of_as-requires-clause-number
of_as-requires-clause-number g c =
    let p = c.in_ok-head.ensures.value in
    let q = rw c.new-origin.ensures at c.in_ok-records.ensures.value in
    (body_is _ _ c.requires (body_took _ _ _ p q)).session.number

pub of_as-requires-clause-records : goal.of_as-requires-clause-records
of_as-requires-clause-records g c =
    let p = c.in_ok-head.ensures.value in
    let q = rw c.new-origin.ensures at c.in_ok-records.ensures.value in
    (body_is _ _ c.requires (body_took _ _ _ p q)).session.records

pub returns-clause-value : goal.returns-clause-value
returns-clause-value g c =
    let p = c.in_ok-head.ensures.value in
    let q = rw c.new-origin.ensures at c.in_ok-records.ensures.value in
    rw c.of_as.ensures (body_took _ _ _ p q)
