use Rattle.std.proofs.Common.{◌<◌, None, length, arith}
use Rattle.sessions.specs.Sessions.{session_in}
use Rattle.table_fixtures.specs.Told.{IsBehind}
use Rattle.table_fixtures.proofs.Turns.{one_further}
use Rattle.table_fixtures.proofs.changes.past_of.Goals as goal

pub loop-change-preserved : goal.loop-change-preserved
loop-change-preserved c =
    let chain = c.args.chain.now in
    let at = c.loop-change.change-index in
    let l : at < length chain = omega arith in
    one_further IsBehind chain at _ None (session_in c.loop-change.past) (session_in c.in_ok-past.past) l c.loop-change.invariant c.in_ok-past.ensures
