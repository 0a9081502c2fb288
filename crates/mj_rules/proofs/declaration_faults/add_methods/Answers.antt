use Rattle.std.proofs.Common.{◌≡◌, ◌<◌, ◌∙◌, ◌++◌, length, get_or, true, false, ap, arith}
use Rattle.mj_tree.specs.Trees.{Method}
use Rattle.mj_tree.specs.Views.{method_view}
use Rattle.mj_classes.specs.Index.{declared_in}
use Rattle.mj_members.specs.Classes.{class_ref_view}
use Rattle.mj_rules.specs.FaultLists.{method_faults_of, nearest_sig, rest_of}
use Rattle.mj_rules.proofs.Steps.{flag_is, flag_of_each, named_step}
use Rattle.mj_rules.proofs.declaration_faults.add_methods.Goals as goal
use Rattle.mj_rules.proofs.declaration_faults.add_methods.Goals.{then-flags-number+in_ok-push, else-flags-number+in_ok-add_override}

pub bounds-flags-number : goal.bounds-flags-number
bounds-flags-number c =
    let within : c.loop-number.number < length c.args.methods.now = omega arith in
    flag_of_each method_view (λ (m : Method). m.name) c.args.methods.now c.as_slice-flags.result.now c.loop-number.number (c.as_slice-flags.ensures.value ∙ c.in_ok-repeated.ensures) within

pub loop-number-preserved : goal.loop-number-preserved
loop-number-preserved c =
    let within : c.loop-number.number < length c.args.methods.now = omega arith in
    let flag = get_or c.as_slice-flags.result.now c.loop-number.number false in
    let m = method_view c.index-methods-number.result in
    let faults = method_faults_of c.args.profile (declared_in c.args.tables.now) (nearest_sig (rest_of (declared_in c.args.tables.now) (class_ref_view c.args.class.now).name)) in
    let added : c.if-flags-number.faults.items ≡ c.loop-number.faults.items ++ faults c.loop-number.number flag m =
    elim c.if-flags-number.branch [
      | then-flags-number+in_ok-push w ↦
          flag_is (λ b. faults c.loop-number.number b m) c.loop-number.faults.items c.if-flags-number.faults.items flag true w.if-flags-number.true (ap (λ v. v.items) w.faults-is ∙ w.in_ok-push.ensures.items)
      | else-flags-number+in_ok-add_override w ↦
          flag_is (λ b. faults c.loop-number.number b m) c.loop-number.faults.items c.if-flags-number.faults.items flag false w.if-flags-number.false (ap (λ v. v.items) w.faults-is ∙ w.in_ok-add_override.ensures)
    ] in
    named_step method_view (λ (m : Method). m.name) faults c.args.methods.now c.as_slice-flags.result.now c.loop-number.number c.index-methods-number.result c.loop-number.faults.items c.if-flags-number.faults.items
    (c.as_slice-flags.ensures.value ∙ c.in_ok-repeated.ensures) within c.index-methods-number.is added
    ∙ c.loop-number.invariant
