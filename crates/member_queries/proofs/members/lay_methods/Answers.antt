use Rattle.std.proofs.Common.{◌≡◌, ◌+◌, ◌-◌, ◌<◌, length, refl, ◌∙◌, arith}
use Rattle.std.proofs.lemmas.List.{map-id}
use Rattle.mj_members.proofs.Rows.{row_laid, own_laid}
use Rattle.member_queries.specs.MemberTables.{member_name_view, name_rows}
use Rattle.member_queries.proofs.members.lay_methods.Goals as goal

pub loop-number-preserved : goal.loop-number-preserved
loop-number-preserved c =
    let next : c.loop-number.number ≡ c.loop-number.number - 1 + 1 = omega (arith, c.loop-number-test.true) in
    let within : c.loop-number.number - 1 < length c.methods-names.result.now = omega (arith, c.loop-number-test.true, c.loop-number.auto.number) in
    row_laid member_name_view (λ n. n) (λ n. n) c.class-owner.result.now c.methods-names.result.now c.loop-number.number (c.loop-number.number - 1) c.index-names-number.result
    c.loop-number.rows.entries c.insert.new.self.entries (name_rows c.args.rows.now.entries) _ _
    next within c.index-names-number.is c.loop-number.invariant refl refl c.in_ok-insert.ensures.entries

pub returns : goal.returns
returns c =
    own_laid member_name_view (λ n. n) (λ n. n) c.methods-names.result.now _ (name_rows c.args.rows.now.entries) c.loop-number.rows.entries c.class-owner.result.now _ c.loop-number.number
    c.loop-number-test.false c.loop-number.invariant c.class-owner.ensures (map-id c.methods-names.result.now ∙ c.methods-names.ensures)
