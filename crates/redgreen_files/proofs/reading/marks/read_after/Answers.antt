use Rattle.devices.proofs.PutLaws.{handed_on}
use Rattle.std.proofs.Common.{◌≡◌, ◌≤◌, arith}
use Rattle.redgreen_files.proofs.FeedLaws.{placed_took, placed_stops, unplaced_took, flag_breaks}
use Rattle.redgreen_files.proofs.reading.marks.read_after.Goals as goal

pub returns-then-flag-eq0-clause-value : goal.returns-then-flag-eq0-clause-value
returns-then-flag-eq0-clause-value g c = unplaced_took _ _ c.args.fault c.args.flag c.if-flag-eq0.true

pub returns-then-flag-gt1-clause-value : goal.returns-then-flag-gt1-clause-value
returns-then-flag-gt1-clause-value g c =
    let le : 2 ≤ c.args.flag = omega (arith, c.if-flag-gt1.true) in
    flag_breaks _ c.args.fault c.args.flag le

pub returns-in_err-place-clause-value : goal.returns-in_err-place-clause-value
returns-in_err-place-clause-value g c =
    let one : c.args.flag ≡ 1 = omega (arith, c.if-flag-eq0.false, c.if-flag-gt1.false) in
    rw (handed_on c.from_residual.result _ c.from_residual.ensures.1) (placed_stops _ c.args.fault c.args.flag c.in_err-place.field-0.0 one c.in_err-place.ensures.value)

pub returns-clause-value : goal.returns-clause-value
returns-clause-value g c =
    let one : c.args.flag ≡ 1 = omega (arith, c.if-flag-eq0.false, c.if-flag-gt1.false) in
    placed_took c.args.fault c.args.flag c.in_ok-place.place one c.in_ok-place.ensures.value
