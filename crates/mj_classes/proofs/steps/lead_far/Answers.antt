use Rattle.std.proofs.Common.{◌≡◌, ◌∙◌, ℕ, List, length, map, arith, sym, ap, subst}
use Rattle.std.proofs.lemmas.Bool.Decides.{Decides-eqb}
use Rattle.std.proofs.lemmas.Slice.Eq.{slice_eq-Decides}
use Rattle.mj_classes.specs.Steps.{led, StayWithin}
use Rattle.mj_classes.proofs.FarSteps.{far_twice, far_stays, far_still, far_two}
use Rattle.mj_classes.proofs.steps.lead_far.Goals as goal

pub twice-requires-in-loop : goal.twice-requires-in-loop
twice-requires-in-loop c =
    subst StayWithin (sym c.deref.ensures.value) (far_stays c.args.steps.now c.loop.count c.loop.far.items c.requires c.loop.invariant.all c.loop.invariant.each)

pub loop-init : goal.loop-init
loop-init c =
    let two = far_two c.args.steps.now c.in_ok-far.far.items c.requires c.in_ok-far.ensures in
    record { all = two.0; each = two.1; some = omega arith }

pub loop-preserved : goal.loop-preserved
loop-preserved c =
    let far = c.loop.far.items in
    let made : c.in_ok-farther.farther.items ≡ map (led far) far = c.in_ok-farther.ensures ∙ ap (λ (xs : List ℕ). map (led xs) xs) c.deref.ensures.value in
    let more = far_twice (led c.args.steps.now) (length c.args.steps.now) c.loop.count far c.in_ok-farther.farther.items c.requires c.loop.invariant.all c.loop.invariant.each made in
    let some = c.loop.invariant.some in
    record { all = more.0; each = more.1; some = omega arith }

pub returns-then-eq : goal.returns-then-eq
returns-then-eq c =
    let far = c.loop.far.items in
    let farther = c.in_ok-farther.farther.items in
    let made : farther ≡ map (led far) far = c.in_ok-farther.ensures ∙ ap (λ (xs : List ℕ). map (led xs) xs) c.deref.ensures.value in
    let same : farther ≡ far = (slice_eq-Decides Decides-eqb farther far c.eq.result c.eq.ensures).0 c.if-eq.true in
    let some = c.loop.invariant.some in
    far_still (led c.args.steps.now) (length c.args.steps.now) c.loop.count far c.requires c.loop.invariant.all (omega arith) c.loop.invariant.each (sym same ∙ made)
