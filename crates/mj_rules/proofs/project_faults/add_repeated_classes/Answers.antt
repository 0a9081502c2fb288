use Rattle.std.proofs.Common.{◌≡◌, ◌<◌, ◌++◌, get_or, true, false, ◌∙◌, ℕ, length, slice_get, ap, ap₂, sym, append-nil, arith}
use Rattle.mj_members.specs.Classes.{class_ref_view}
use Rattle.mj_members.specs.Declarations.{ClassDecl}
use Rattle.named_files.specs.Projects.{sources_view}
use Rattle.mj_rules.specs.FaultLists.{repeated_class, repeated_class_faults}
use Rattle.mj_rules.proofs.Steps.{flag_is, flag_of_each, named_step, class_file, class_number}
use Rattle.mj_rules.proofs.project_faults.add_repeated_classes.Goals as goal
use Rattle.mj_rules.proofs.project_faults.add_repeated_classes.Goals.{then-flags-number+in_ok-add_repeated_class, else-flags-number}

pub bounds-flags-number : goal.bounds-flags-number
bounds-flags-number c =
    let within : c.loop-number.number < length c.args.classes.now = omega arith in
    flag_of_each class_ref_view (λ (k : ClassDecl). k.name) c.args.classes.now c.as_slice-flags.result.now c.loop-number.number (c.as_slice-flags.ensures.value ∙ c.in_ok-repeated.ensures) within

pub loop-number-preserved : goal.loop-number-preserved
loop-number-preserved c =
    let within : c.loop-number.number < length c.args.classes.now = omega arith in
    let flag = get_or c.as_slice-flags.result.now c.loop-number.number false in
    let class = c.index-classes-number.result in
    let faults = repeated_class_faults (sources_view c.args.files.now) in
    let added : c.if-flags-number.faults.items ≡ c.loop-number.faults.items ++ faults c.loop-number.number flag (class_ref_view class) =
    elim c.if-flags-number.branch [
      | then-flags-number+in_ok-add_repeated_class w ↦
          flag_is (λ b. faults c.loop-number.number b (class_ref_view class)) c.loop-number.faults.items c.if-flags-number.faults.items flag true w.if-flags-number.true
          (ap (λ v. v.items) w.faults-is
          ∙ (w.in_ok-add_repeated_class.ensures
          ∙ ap₂ (λ (f n : ℕ). c.loop-number.faults.items ++ repeated_class (slice_get (sources_view c.args.files.now) f) n) (sym (class_file class)) (sym (class_number class))))
      | else-flags-number w ↦
          flag_is (λ b. faults c.loop-number.number b (class_ref_view class)) c.loop-number.faults.items c.if-flags-number.faults.items flag false w.if-flags-number.false
          (ap (λ v. v.items) w.faults-is ∙ sym (append-nil c.loop-number.faults.items))
    ] in
    named_step class_ref_view (λ (k : ClassDecl). k.name) faults c.args.classes.now c.as_slice-flags.result.now c.loop-number.number class c.loop-number.faults.items c.if-flags-number.faults.items
    (c.as_slice-flags.ensures.value ∙ c.in_ok-repeated.ensures) within c.index-classes-number.is added
    ∙ c.loop-number.invariant
