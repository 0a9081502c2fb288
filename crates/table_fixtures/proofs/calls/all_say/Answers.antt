use Rattle.std.proofs.Common.{◌<◌, length, arith}
use Rattle.table_fixtures.specs.Called.{IsSaid}
use Rattle.table_fixtures.proofs.Turns.{one_further}
use Rattle.table_fixtures.proofs.calls.all_say.Goals as goal

pub loop-saying-preserved : goal.loop-saying-preserved
loop-saying-preserved c =
    let sayings = c.args.sayings.now in
    let at = c.loop-saying.saying-index in
    let l : at < length sayings = omega arith in
    one_further IsSaid sayings at _ c.args.table.now c.loop-saying.table c.says.new.table l c.loop-saying.invariant (c.in_ok-says.ensures c.if-not-branch.false)
