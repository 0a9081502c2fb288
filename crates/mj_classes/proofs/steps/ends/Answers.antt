use Rattle.std.proofs.Common.{ℕ, List, length, sym, subst}
use Rattle.mj_classes.specs.Steps.{LeadFar, led, StayWithin}
use Rattle.mj_classes.proofs.FarSteps.{halted_stay, halted_far}
use Rattle.mj_classes.proofs.steps.ends.Goals as goal

pub lead_far-requires : goal.lead_far-requires
lead_far-requires c =
    subst StayWithin (sym c.deref.ensures.value) (halted_stay c.args.flags.now c.args.steps.now c.in_ok-halts.halts.items c.requires.within c.in_ok-halts.ensures)

pub returns : goal.returns
returns c =
    halted_far c.args.flags.now c.args.steps.now c.in_ok-halts.halts.items c.in_ok-ends.ends.items c.requires.within c.in_ok-halts.ensures
    (subst (λ (xs : List ℕ). LeadFar (led xs) (length xs) c.in_ok-ends.ends.items) c.deref.ensures.value c.in_ok-ends.ensures)
