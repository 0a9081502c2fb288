use Rattle.std.proofs.Common.{◌<◌, length, arith}
use Rattle.audit_fixtures.proofs.Counting.{runs_further}
use Rattle.audit_fixtures.proofs.chain.runs_of.Goals as goal

pub loop-change-preserved : goal.loop-change-preserved
loop-change-preserved c =
    let chain = c.args.chain.now in
    let at = c.loop-change.change-index in
    let l : at < length chain = omega arith in
    runs_further chain at _ c.loop-change.runs c.in_ok-runs.runs l c.loop-change.invariant c.in_ok-runs.ensures.1
