use Rattle.std.proofs.Common.{◌<◌, ◌∙◌, length, arith}
use Rattle.mj_tree.specs.Trees.{Method}
use Rattle.mj_tree.specs.Views.{method_view}
use Rattle.mj_classes.specs.Index.{declared_in}
use Rattle.mj_rules.specs.FaultLists.{body_faults_of}
use Rattle.mj_rules.proofs.Steps.{flag_of_each, named_step}
use Rattle.mj_rules.proofs.body_faults.add_bodies.Goals as goal

pub bounds-flags-number : goal.bounds-flags-number
bounds-flags-number c =
    let within : c.loop-number.number < length c.args.methods.now = omega arith in
    flag_of_each method_view (λ (m : Method). m.name) c.args.methods.now c.as_slice-flags.result.now c.loop-number.number (c.as_slice-flags.ensures.value ∙ c.in_ok-repeated.ensures) within

pub loop-number-preserved : goal.loop-number-preserved
loop-number-preserved c =
    let within : c.loop-number.number < length c.args.methods.now = omega arith in
    named_step method_view (λ (m : Method). m.name) (body_faults_of (declared_in c.args.world.now.tables.now) c.args.class.now) c.args.methods.now c.as_slice-flags.result.now c.loop-number.number c.index-methods-number.result c.loop-number.faults.items c.add_body.new.faults.items
    (c.as_slice-flags.ensures.value ∙ c.in_ok-repeated.ensures) within c.index-methods-number.is c.in_ok-add_body.ensures
    ∙ c.loop-number.invariant
