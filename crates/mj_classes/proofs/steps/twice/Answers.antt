use Rattle.std.proofs.Common.{◌<◌, length, arith, sym, subst}
use Rattle.mj_classes.proofs.FarSteps.{led-read, twice_more}
use Rattle.mj_classes.proofs.steps.twice.Goals as goal

pub bounds-steps-at : goal.bounds-steps-at
bounds-steps-at c =
    let lt : c.loop-at.at-index < length c.args.steps.now = c.loop-at-test.true in
    subst (λ at. at < length c.args.steps.now) (sym (led-read c.args.steps.now c.loop-at.at-index 0 lt)) (c.requires c.loop-at.at-index lt)

pub offset_bounds-steps-at : goal.offset_bounds-steps-at
offset_bounds-steps-at c =
    let lt : c.loop-at.at-index < length c.args.steps.now = c.loop-at-test.true in
    let inside = c.requires c.loop-at.at-index lt in
    let read = led-read c.args.steps.now c.loop-at.at-index 0 lt in
    omega (arith, inside, read)

pub loop-at-preserved : goal.loop-at-preserved
loop-at-preserved c =
    twice_more c.args.steps.now c.loop-at.at-index c.loop-at.far.items c.push.new.self.items c.loop-at-test.true c.loop-at.invariant c.in_ok-push.ensures.items (c.requires c.loop-at.at-index c.loop-at-test.true)
