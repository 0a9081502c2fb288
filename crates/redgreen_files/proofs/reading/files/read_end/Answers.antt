use Rattle.devices.proofs.PutLaws.{handed_on}
use Rattle.std.proofs.Common.{rules, arith}
use Rattle.redgreen_files.proofs.FeedLaws.{end_stops, end_differs, end_trails}
use Rattle.redgreen_files.proofs.reading.files.read_end.Goals as goal

pub returns-in_err-fill-clause-ends : goal.returns-in_err-fill-clause-ends
returns-in_err-fill-clause-ends g c = rw (handed_on c.from_residual.result _ c.from_residual.ensures.1) (end_stops _ c.args.end.now c.in_err-fill.field-0.0 c.in_err-fill.ensures.filled (search rules))

pub returns-then-ne-clause-ends : goal.returns-then-ne-clause-ends
returns-then-ne-clause-ends g c = end_differs c.args.end.now c.in_ok-fill.ensures.filled.1 (search rules) (search rules)

pub returns-then-count-gt0-clause-ends : goal.returns-then-count-gt0-clause-ends
returns-then-count-gt0-clause-ends g c = end_trails c.args.end.now _ _ c.in-Ok.count c.in_ok-fill.ensures.filled.1 (search rules) c.in-Ok.ensures.taken.1 (omega (arith, c.if-count-gt0.true))
