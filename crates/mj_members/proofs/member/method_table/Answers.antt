use Rattle.std.proofs.Common.{◌≡◌, ◌+◌, ◌-◌, ◌<◌, length, arith}
use Rattle.std.specs.BTreeMap.{values}
use Rattle.std.proofs.lemmas.Result.{IfOk-weaker}
use Rattle.mj_members.specs.Classes.{classes_view, method_member_view}
use Rattle.mj_members.specs.Tables.{all_along, methods_along}
use Rattle.mj_members.proofs.Rows.{class_laid, all_laid, table_from}
use Rattle.mj_members.proofs.member.method_table.Goals as goal

pub loop-number-preserved : goal.loop-number-preserved
loop-number-preserved c =
    let next : c.loop-number.number ≡ c.loop-number.number - 1 + 1 = omega (arith, c.loop-number-test.true) in
    let within : c.loop-number.number - 1 < length c.args.classes.now = omega (arith, c.loop-number-test.true, c.loop-number.auto.number) in
    class_laid method_member_view (λ m. m.name) (λ k. k.methods) c.loop-number.rows.entries c.lay_own_methods.new.rows.entries c.args.classes.now c.loop-number.number (c.loop-number.number - 1) c.index-classes-number.result
    next within c.index-classes-number.is c.loop-number.invariant c.in_ok-lay_own_methods.ensures

pub returns : goal.returns
unfolding methods_along
returns c =
    let all = all_laid (λ ks. all_along (λ m. m.name) (λ k. k.methods) (classes_view ks)) method_member_view c.args.classes.now c.loop-number.rows.entries c.loop-number.number c.loop-number-test.false c.loop-number.invariant in
    IfOk-weaker c.in_order.result (λ v. v.items ≡ values c.loop-number.rows) _
    (λ v e. table_from method_member_view c.loop-number.rows.entries v.items (all_along (λ m. m.name) (λ k. k.methods) (classes_view c.args.classes.now)) c.in_order.ensures.ordered all e) c.in_order.ensures.values
