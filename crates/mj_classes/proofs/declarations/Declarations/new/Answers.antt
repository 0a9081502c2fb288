use Rattle.std.proofs.Common.{◌≡◌, ◌∙◌, ℕ, Bool, List, Option, length, map, sym, ap, subst}
use Rattle.mj_members.specs.Declarations.{has_members}
use Rattle.mj_members.specs.Classes.{classes_view}
use Rattle.mj_classes.specs.Declarations.{superclass_places}
use Rattle.mj_classes.specs.Steps.{StayWithin, LeadToTurns, LeadFar, halted}
use Rattle.mj_classes.specs.Walks.{AreStepsUp}
use Rattle.mj_classes.proofs.Turning.{steps_stay, turns_are, nearest_are}
use Rattle.mj_classes.proofs.declarations.Declarations.new.Goals as goal

pub turns-requires : goal.turns-requires
turns-requires c =
    let cs = classes_view c.in_ok-classes.classes.items in
    let links : c.deref-4.result.now ≡ superclass_places cs = c.deref-4.ensures.value ∙ (c.in_ok-superclasses.ensures ∙ ap (λ ks. superclass_places (classes_view ks)) c.deref-2.ensures.value) in
    let up = subst (λ (xs : List (Option ℕ)). AreStepsUp xs c.in_ok-steps.steps.items) links c.in_ok-steps.ensures in
    subst StayWithin (sym c.deref-5.ensures.value) (steps_stay cs c.in_ok-steps.steps.items up)

pub ends-requires-clause-within : goal.ends-requires-clause-within
ends-requires-clause-within c =
    let cs = classes_view c.in_ok-classes.classes.items in
    let links : c.deref-4.result.now ≡ superclass_places cs = c.deref-4.ensures.value ∙ (c.in_ok-superclasses.ensures ∙ ap (λ ks. superclass_places (classes_view ks)) c.deref-2.ensures.value) in
    let up = subst (λ (xs : List (Option ℕ)). AreStepsUp xs c.in_ok-steps.steps.items) links c.in_ok-steps.ensures in
    subst StayWithin (sym c.deref-6.ensures.value) (steps_stay cs c.in_ok-steps.steps.items up)

pub invariant_of-result-clause-turned : goal.invariant_of-result-clause-turned
invariant_of-result-clause-turned c =
    let cs = classes_view c.in_ok-classes.classes.items in
    let links : c.deref-4.result.now ≡ superclass_places cs = c.deref-4.ensures.value ∙ (c.in_ok-superclasses.ensures ∙ ap (λ ks. superclass_places (classes_view ks)) c.deref-2.ensures.value) in
    let up = subst (λ (xs : List (Option ℕ)). AreStepsUp xs c.in_ok-steps.steps.items) links c.in_ok-steps.ensures in
    let t = subst (λ (xs : List ℕ). LeadToTurns xs c.in_ok-turns.turns.items) c.deref-5.ensures.value c.in_ok-turns.ensures in
    turns_are cs c.in_ok-steps.steps.items t.flags c.in_ok-turns.turns.items up t.back t.far

pub invariant_of-result-clause-near : goal.invariant_of-result-clause-near
invariant_of-result-clause-near c =
    let cs = classes_view c.in_ok-classes.classes.items in
    let steps = c.in_ok-steps.steps.items in
    let links : c.deref-4.result.now ≡ superclass_places cs = c.deref-4.ensures.value ∙ (c.in_ok-superclasses.ensures ∙ ap (λ ks. superclass_places (classes_view ks)) c.deref-2.ensures.value) in
    let up = subst (λ (xs : List (Option ℕ)). AreStepsUp xs steps) links c.in_ok-steps.ensures in
    let flags : c.deref-7.result.now ≡ map has_members cs = c.deref-7.ensures.value ∙ (c.in_ok-declares.ensures ∙ ap (λ ks. map has_members (classes_view ks)) c.deref-3.ensures.value) in
    let far = subst (λ (xs : List ℕ). LeadFar (halted c.deref-7.result.now xs) (length xs) c.in_ok-nearest.nearest.items) c.deref-6.ensures.value c.in_ok-nearest.ensures in
    nearest_are cs steps c.in_ok-nearest.nearest.items up (subst (λ (fs : List Bool). LeadFar (halted fs steps) (length steps) c.in_ok-nearest.nearest.items) flags far)
