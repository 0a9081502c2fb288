use Rattle.std.proofs.Common.{◌≡◌, ◌++◌, ◌+◌, ◌-◌, ◌<◌, length, map, refl, arith}
use Rattle.mj_members.specs.Classes.{method_member_view}
use Rattle.mj_members.specs.Tables.{named_rows}
use Rattle.mj_members.specs.Rows.{method_rows}
use Rattle.mj_members.proofs.Rows.{member_laid, all_laid}
use Rattle.mj_members.proofs.member.lay_methods.Goals as goal

pub loop-number-preserved : goal.loop-number-preserved
loop-number-preserved c =
    let next : c.loop-number.number ≡ c.loop-number.number - 1 + 1 = omega (arith, c.loop-number-test.true) in
    let within : c.loop-number.number - 1 < length c.args.methods.now = omega (arith, c.loop-number-test.true, c.loop-number.auto.number) in
    member_laid method_member_view (λ m. m.name) c.args.methods.now c.loop-number.number (c.loop-number.number - 1) c.index-methods-number.result
    c.loop-number.rows.entries c.insert.new.self.entries (method_rows c.args.rows.now.entries) _
    next within c.index-methods-number.is c.loop-number.invariant refl c.in_ok-insert.ensures.entries

pub returns : goal.returns
returns c =
    all_laid (λ ms. named_rows (λ m. m.name) (map method_member_view ms) ++ method_rows c.args.rows.now.entries) method_member_view c.args.methods.now c.loop-number.rows.entries c.loop-number.number
    c.loop-number-test.false c.loop-number.invariant
