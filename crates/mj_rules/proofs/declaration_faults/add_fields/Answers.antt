use Rattle.std.proofs.Common.{◌<◌, ◌∙◌, length, map, arith}
use Rattle.std.proofs.lemmas.List.{length-map}
use Rattle.mj_tree.specs.declared.tree.Field.{Field}
use Rattle.mj_tree.proofs.Positions.{read_at}
use Rattle.mj_classes.specs.Index.{declared_in}
use Rattle.named_files.specs.Repeats.{repeats}
use Rattle.mj_rules.specs.FaultLists.{field_faults}
use Rattle.mj_rules.proofs.Steps.{each_step, flag_read, flag_within}
use Rattle.mj_rules.proofs.declaration_faults.add_fields.Goals as goal

pub bounds-flags-number : goal.bounds-flags-number
bounds-flags-number c =
    let same = length-map c.args.fields.now (λ (f : Field). f.name) in
    let within : c.loop-number.number < length (map (λ (f : Field). f.name) c.args.fields.now) = omega arith in
    flag_within (map (λ (f : Field). f.name) c.args.fields.now) c.as_slice-flags.result.now c.loop-number.number (c.as_slice-flags.ensures.value ∙ c.in_ok-repeated.ensures) within

pub loop-number-preserved : goal.loop-number-preserved
loop-number-preserved c =
    let within : c.loop-number.number < length c.args.fields.now = omega arith in
    let same = length-map c.args.fields.now (λ (f : Field). f.name) in
    let named : c.loop-number.number < length (map (λ (f : Field). f.name) c.args.fields.now) = omega arith in
    let flags = c.as_slice-flags.ensures.value ∙ c.in_ok-repeated.ensures in
    each_step (field_faults (declared_in c.args.declarations.now)) c.args.fields.now (repeats (map (λ (f : Field). f.name) c.args.fields.now)) c.loop-number.number c.index-fields-number.result _ c.loop-number.faults.items c.add_field.new.faults.items
    (read_at c.args.fields.now c.loop-number.number c.index-fields-number.result within c.index-fields-number.is)
    (flag_read (repeats (map (λ (f : Field). f.name) c.args.fields.now)) c.as_slice-flags.result.now c.loop-number.number _ flags
    (flag_within (map (λ (f : Field). f.name) c.args.fields.now) c.as_slice-flags.result.now c.loop-number.number flags named))
    c.in_ok-add_field.ensures ∙ c.loop-number.invariant
