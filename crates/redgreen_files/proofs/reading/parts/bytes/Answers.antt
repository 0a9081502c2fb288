use Rattle.std.proofs.Common.{◌≡◌, ◌+◌, ◌≤◌, length, arith}
use Rattle.devices.proofs.PutLaws.{handed_on}
use Rattle.redgreen_files.proofs.FeedLaws.{bytes_took, bytes_stop_after}
use Rattle.redgreen_files.proofs.reading.parts.bytes.Goals as goal

pub returns-in_err-piece-clause-value : goal.returns-in_err-piece-clause-value
returns-in_err-piece-clause-value g c =
    let le : length c.loop-left.text.items + c.min-step.result ≤ c.args.count = omega arith in
    rw (handed_on c.from_residual.result _ c.from_residual.ensures.1) (bytes_stop_after c.args.count c.min-step.result c.in_err-piece.field-0.0 c.loop-left.invariant.moved le c.in_err-piece.ensures.value)

pub returns-clause-value : goal.returns-clause-value
returns-clause-value g c =
    let len : length c.loop-left.text.items ≡ c.args.count = omega arith in
    rw c.shrink_to_fit.ensures.items (bytes_took c.args.count c.loop-left.invariant.moved len)
