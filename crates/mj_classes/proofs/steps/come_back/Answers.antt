use Rattle.std.proofs.Common.{◌∙◌, ◌<◌, ℕ, List, length, get_or, arith, sym, ap, subst, refl}
use Rattle.mj_classes.specs.Steps.{led, LeadFar}
use Rattle.mj_classes.proofs.FarSteps.{FlagSome, led-read, far_inside, flag_none, flag_more, flags_tell}
use Rattle.mj_classes.proofs.steps.come_back.Goals as goal

pub loop-at-init : goal.loop-at-init
loop-at-init c =
    flag_none c.deref-at-items.result.now c.in_ok-flags.flags.items (length c.args.steps.now) c.in_ok-flags.ensures (ap length c.deref-at-items.ensures.value ∙ c.in_ok-far.ensures.all)

pub index_mut-requires : goal.index_mut-requires
index_mut-requires c =
    let far = c.deref-at-items.result.now in
    let lt : c.loop-at.at-index < length far = c.loop-at-test.true in
    let inside = far_inside c.args.steps.now far c.loop-at.at-index c.requires (subst (λ (xs : List ℕ). LeadFar (led c.args.steps.now) (length c.args.steps.now) xs) (sym c.deref-at-items.ensures.value) c.in_ok-far.ensures) lt in
    omega (arith, inside, led-read far c.loop-at.at-index 0 lt, c.loop-at.invariant.all)

pub loop-at-preserved : goal.loop-at-preserved
loop-at-preserved c =
    let far = c.deref-at-items.result.now in
    let lt : c.loop-at.at-index < length far = c.loop-at-test.true in
    let inside = far_inside c.args.steps.now far c.loop-at.at-index c.requires (subst (λ (xs : List ℕ). LeadFar (led c.args.steps.now) (length c.args.steps.now) xs) (sym c.deref-at-items.ensures.value) c.in_ok-far.ensures) lt in
    flag_more far c.loop-at.flags.items _ c.loop-at.at-index (get_or far c.loop-at.at-index 0) c.loop-at.invariant lt (led-read far c.loop-at.at-index 0 lt) (omega (arith, inside, led-read far c.loop-at.at-index 0 lt)) refl

pub returns : goal.returns
returns c =
    let same = c.deref-at-items.ensures.value in
    flags_tell c.args.steps.now c.in_ok-far.far.items c.loop-at.flags.items c.loop-at.at-index c.requires c.in_ok-far.ensures
    (subst (λ (xs : List ℕ). FlagSome xs c.loop-at.flags.items c.loop-at.at-index) same c.loop-at.invariant) (omega (arith, ap length same)) (omega (arith, ap length same))
