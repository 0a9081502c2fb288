use Rattle.std.proofs.Common.{◌<◌, ◌≤◌, length, arith}
use Rattle.redgreen_audit.specs.Checks.{PassesAt}
use Rattle.redgreen_audit.proofs.Places.{each_more, each_all}
use Rattle.redgreen_audit.proofs.Differing.{first_faulty}
use Rattle.redgreen_audit.proofs.checking.check_each.Goals as goal

pub returns-in-Err-clause-faulty : goal.returns-in-Err-clause-faulty
returns-in-Err-clause-faulty c =
    let lt : c.loop-n.n < length c.args.now.now = omega arith in
    first_faulty c.args.past.now c.args.now.now c.loop-n.n c.index-now-n.result c.in-Err.wrong lt c.index-now-n.is c.loop-n.invariant c.in-Err.ensures.faulty

pub loop-n-preserved : goal.loop-n-preserved
loop-n-preserved c =
    let lt : c.loop-n.n < length c.args.now.now = omega arith in
    each_more (PassesAt c.args.past.now c.args.now.now) c.args.now.now c.loop-n.n c.index-now-n.result lt c.index-now-n.is c.loop-n.invariant c.in-Ok.ensures.passes

pub returns-clause-passes : goal.returns-clause-passes
returns-clause-passes c =
    let le : length c.args.now.now ≤ c.loop-n.n = omega arith in
    each_all (PassesAt c.args.past.now c.args.now.now) c.args.now.now c.loop-n.n le c.loop-n.invariant
