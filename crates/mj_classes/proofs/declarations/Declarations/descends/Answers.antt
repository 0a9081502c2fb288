use Rattle.std.proofs.Common.{◌≡◌, ◌∙◌, ◌-◌, ◌+◌, suc, length, sym, ap, arith, ◌⊎◌, inl, inr}
use Rattle.std.proofs.lemmas.List.{length-map}
use Rattle.mj_members.specs.Classes.{classes_view, class_ref_view}
use Rattle.mj_classes.proofs.Ancestors.{undeclared_nowhere, none_in_no_chain, first_within, seek_starts, seek_found, seek_top, seek_back, seek_on, seek_ends}
use Rattle.mj_classes.proofs.Places.{place_none}
use Rattle.mj_classes.proofs.declarations.Declarations.descends.Goals as goal
use Rattle.mj_classes.proofs.declarations.Declarations.descends.Goals.{then-is_power_of_two, else-is_power_of_two}

pub returns-in_default : goal.returns-in_default
returns-in_default c =
    let cs = classes_view c.args.self.now.classes.items in
    sym (undeclared_nowhere cs c.args.class.now c.args.ancestor.now (place_none cs c.args.ancestor.now (sym c.place.ensures ∙ c.in_default.is)))

pub returns-in_default-place : goal.returns-in_default-place
returns-in_default-place c =
    let cs = classes_view c.args.self.now.classes.items in
    sym (none_in_no_chain cs c.args.class.now c.args.ancestor.now (place_none cs c.args.class.now (sym c.place-2.ensures ∙ c.in_default-place.is)))

pub loop-step-init : goal.loop-step-init
loop-step-init c = seek_starts (classes_view c.args.self.now.classes.items) c.args.class.now c.args.ancestor.now _ _ (omega arith) (sym c.place-2.ensures ∙ c.in-Some-place.is)

pub returns-then-at-sought : goal.returns-then-at-sought
returns-then-at-sought c =
    let cs = classes_view c.args.self.now.classes.items in
    let more = length cs - (c.loop-step.step + 1) in
    let one : length cs - c.loop-step.step ≡ suc more = omega (arith, ap length c.classes-step-end.ensures, length-map c.classes-step-end.result.now class_ref_view) in
    seek_found cs c.args.class.now c.args.ancestor.now _ more c.loop-step.at c.loop-step.passed c.in-Some.sought c.loop-step.invariant one (sym c.place.ensures ∙ c.in-Some.is) c.if-at-sought.true

pub superclass_of-requires : goal.superclass_of-requires
superclass_of-requires c = first_within (classes_view c.args.self.now.classes.items) c.loop-step.at c.loop-step.invariant.first

pub returns-in_default-superclass_of : goal.returns-in_default-superclass_of
returns-in_default-superclass_of c =
    let cs = classes_view c.args.self.now.classes.items in
    let more = length cs - (c.loop-step.step + 1) in
    let one : length cs - c.loop-step.step ≡ suc more = omega (arith, ap length c.classes-step-end.ensures, length-map c.classes-step-end.result.now class_ref_view) in
    seek_top cs c.args.class.now c.args.ancestor.now _ more c.loop-step.at c.loop-step.passed c.in-Some.sought c.loop-step.invariant one (sym c.place.ensures ∙ c.in-Some.is) c.if-at-sought.false
    (rw c.in_default-superclass_of.is at c.superclass_of.ensures)

pub returns-then-at-passed : goal.returns-then-at-passed
returns-then-at-passed c =
    let cs = classes_view c.args.self.now.classes.items in
    let more = length cs - (c.loop-step.step + 1) in
    let one : length cs - c.loop-step.step ≡ suc more = omega (arith, ap length c.classes-step-end.ensures, length-map c.classes-step-end.result.now class_ref_view) in
    let mark : (c.if-is_power_of_two.passed ≡ c.loop-step.at) ⊎ (c.if-is_power_of_two.passed ≡ c.loop-step.passed) = elim c.if-is_power_of_two.branch [ then-is_power_of_two w ↦ inl w.passed-is | else-is_power_of_two w ↦ inr w.passed-is ] in
    seek_back cs c.args.class.now c.args.ancestor.now _ more c.loop-step.at c.loop-step.passed c.in-Some.sought c.loop-step.invariant one (sym c.place.ensures ∙ c.in-Some.is) c.if-at-sought.false
    c.if-is_power_of_two.passed c.in-Some-superclass_of.above mark (rw c.in-Some-superclass_of.is at c.superclass_of.ensures) c.if-at-passed.true

pub loop-step-preserved : goal.loop-step-preserved
loop-step-preserved c =
    let cs = classes_view c.args.self.now.classes.items in
    let more = length cs - (c.loop-step.step + 1) in
    let one : length cs - c.loop-step.step ≡ suc more = omega (arith, ap length c.classes-step-end.ensures, length-map c.classes-step-end.result.now class_ref_view) in
    let mark : (c.if-is_power_of_two.passed ≡ c.loop-step.at) ⊎ (c.if-is_power_of_two.passed ≡ c.loop-step.passed) = elim c.if-is_power_of_two.branch [ then-is_power_of_two w ↦ inl w.passed-is | else-is_power_of_two w ↦ inr w.passed-is ] in
    seek_on cs c.args.class.now c.args.ancestor.now _ more c.loop-step.at c.loop-step.passed c.in-Some.sought c.loop-step.invariant one (sym c.place.ensures ∙ c.in-Some.is) c.if-at-sought.false
    c.if-is_power_of_two.passed c.in-Some-superclass_of.above mark (rw c.in-Some-superclass_of.is at c.superclass_of.ensures)

pub returns : goal.returns
returns c =
    let cs = classes_view c.args.self.now.classes.items in
    let none : length cs - c.loop-step.step ≡ 0 = omega (arith, ap length c.classes-step-end.ensures, length-map c.classes-step-end.result.now class_ref_view) in
    seek_ends cs c.args.class.now c.args.ancestor.now _ c.loop-step.at c.loop-step.passed c.loop-step.invariant none
