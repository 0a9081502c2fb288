use Rattle.std.proofs.Common.{◌<◌, ◌∙◌, length, sym, arith}
use Rattle.std.proofs.lemmas.Option.{slice_get-get_or}
use Rattle.mj_rules.proofs.Steps.{each_step}
use Rattle.answer_queries.specs.Told.{field_told}
use Rattle.answer_queries.proofs.Added.{either_end}
use Rattle.answer_queries.proofs.told.add_fields.Goals as goal

pub loop-number-preserved : goal.loop-number-preserved
loop-number-preserved c =
    let left : c.loop-number.number < length c.args.undeclared.now = omega arith in
    let right : c.loop-number.number < length c.args.repeated.now = omega arith in
    each_step field_told c.args.undeclared.now c.args.repeated.now c.loop-number.number _ _ c.loop-number.faults.items c.add_field.new.faults.items
    (slice_get-get_or c.args.undeclared.now c.loop-number.number _ left) (slice_get-get_or c.args.repeated.now c.loop-number.number _ right)
    c.in_ok-add_field.ensures ∙ c.loop-number.invariant

pub returns : goal.returns
returns c = sym (either_end field_told c.args.undeclared.now c.args.repeated.now c.loop-number.number c.loop-number.faults.items (omega arith)) ∙ c.loop-number.invariant
