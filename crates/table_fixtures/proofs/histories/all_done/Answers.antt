use Rattle.std.proofs.Common.{◌<◌, length, arith}
use Rattle.table_fixtures.specs.Called.{IsBrought}
use Rattle.table_fixtures.proofs.Turns.{one_further}
use Rattle.table_fixtures.proofs.histories.all_done.Goals as goal

pub loop-kept-preserved : goal.loop-kept-preserved
loop-kept-preserved c =
    let brought = c.args.brought.now in
    let at = c.loop-kept.kept-index in
    let l : at < length brought = omega arith in
    one_further (IsBrought c.args.records.now) brought at _ c.args.table.now c.loop-kept.table c.comes_done.new.table l c.loop-kept.invariant
    (c.in_ok-comes_done.ensures c.if-not-branch.false)
