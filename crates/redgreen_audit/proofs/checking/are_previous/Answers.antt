use Rattle.std.proofs.Common.{◌<◌, None, length, arith}
use Rattle.redgreen_audit.specs.Checks.{named, previous_at}
use Rattle.redgreen_audit.proofs.Places.{same_there}
use Rattle.redgreen_audit.proofs.checking.are_previous.Goals as goal

pub returns-then-not-names : goal.returns-then-not-names
returns-then-not-names c = λ all.
    let l : c.loop-i.i < length c.args.reads.now = omega arith in
    let m : c.loop-i.i < length c.args.had.now = omega (arith, l, c.loop-i.invariant.as_long) in
    c.if-not-names.ensures (same_there None (previous_at c.args.now.now) named c.args.reads.now c.args.had.now c.loop-i.i l m all)
