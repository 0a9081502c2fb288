use Rattle.std.proofs.Common.{◌≡◌, ◌+◌, ◌-◌, ◌<◌, length, refl, arith}
use Rattle.mj_tree.specs.Views.{method_view}
use Rattle.mj_members.specs.Classes.{method_member_view}
use Rattle.mj_members.specs.Rows.{method_rows}
use Rattle.mj_members.proofs.Rows.{row_laid, own_laid}
use Rattle.mj_members.proofs.member.lay_own_methods.Goals as goal

pub loop-number-preserved : goal.loop-number-preserved
loop-number-preserved c =
    let next : c.loop-number.number ≡ c.loop-number.number - 1 + 1 = omega (arith, c.loop-number-test.true) in
    let within : c.loop-number.number - 1 < length c.methods-methods.result.now = omega (arith, c.loop-number-test.true, c.loop-number.auto.number) in
    row_laid method_member_view method_view (λ m. m.name) c.name-owner.result.now c.methods-methods.result.now c.loop-number.number (c.loop-number.number - 1) c.index-methods-number.result
    c.loop-number.rows.entries c.insert.new.self.entries (method_rows c.args.rows.now.entries) _ _
    next within c.index-methods-number.is c.loop-number.invariant refl refl c.in_ok-insert.ensures.entries

pub returns : goal.returns
returns c =
    own_laid method_member_view method_view (λ m. m.name) c.methods-methods.result.now _ (method_rows c.args.rows.now.entries) c.loop-number.rows.entries c.name-owner.result.now _ c.loop-number.number
    c.loop-number-test.false c.loop-number.invariant c.name-owner.ensures c.methods-methods.ensures
