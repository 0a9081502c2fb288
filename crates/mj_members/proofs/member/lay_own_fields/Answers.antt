use Rattle.std.proofs.Common.{◌≡◌, ◌+◌, ◌-◌, ◌<◌, length, refl, arith, ◌∙◌}
use Rattle.std.proofs.lemmas.List.{map-id}
use Rattle.mj_members.specs.Classes.{field_member_view}
use Rattle.mj_members.specs.Rows.{field_rows}
use Rattle.mj_members.proofs.Rows.{row_laid, own_laid}
use Rattle.mj_members.proofs.member.lay_own_fields.Goals as goal

pub loop-number-preserved : goal.loop-number-preserved
loop-number-preserved c =
    let next : c.loop-number.number ≡ c.loop-number.number - 1 + 1 = omega (arith, c.loop-number-test.true) in
    let within : c.loop-number.number - 1 < length c.fields-fields.result.now = omega (arith, c.loop-number-test.true, c.loop-number.auto.number) in
    row_laid field_member_view (λ f. f) (λ f. f.name) c.name-owner.result.now c.fields-fields.result.now c.loop-number.number (c.loop-number.number - 1) c.index-fields-number.result
    c.loop-number.rows.entries c.insert.new.self.entries (field_rows c.args.rows.now.entries) _ _
    next within c.index-fields-number.is c.loop-number.invariant refl refl c.in_ok-insert.ensures.entries

pub returns : goal.returns
returns c =
    own_laid field_member_view (λ f. f) (λ f. f.name) c.fields-fields.result.now _ (field_rows c.args.rows.now.entries) c.loop-number.rows.entries c.name-owner.result.now _ c.loop-number.number
    c.loop-number-test.false c.loop-number.invariant c.name-owner.ensures (map-id c.fields-fields.result.now ∙ c.fields-fields.ensures)
