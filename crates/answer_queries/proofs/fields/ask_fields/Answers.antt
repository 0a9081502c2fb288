use Rattle.std.proofs.Common.{rules, []}
use Rattle.recorder.specs.Programs.{GivesUp, each}
use Rattle.recorder.proofs.Rules.{loop_more, loop_up}
use Rattle.answer_queries.specs.CheckClass.{field_type_step}
use Rattle.answer_queries.proofs.fields.ask_fields.Goals as goal

pub loop-field-preserved : goal.loop-field-preserved
loop-field-preserved g c = record {
  at = loop_more field_type_step c.args.fields.now [] c.args.recorder.now _ _ _ _ _ _ c.loop-field.invariant.at c.in_ok-ask_field.ensures.ok c.loop-field-test.true c.field-item.is;
  follows = g.met.D.Reader.transitive _ _ _ c.loop-field.invariant.follows c.in_ok-ask_field.ensures.follows;
}

pub returns-in_err-ask_field-clause-err : goal.returns-in_err-ask_field-clause-err
returns-in_err-ask_field-clause-err g c =
    let h : GivesUp (each field_type_step c.args.fields.now []) c.args.recorder.now c.in_err-ask_field.field-0.0 c.ask_field.new.recorder =
    loop_up field_type_step c.args.fields.now [] c.args.recorder.now _ _ _ _ _ _ c.loop-field.invariant.at c.in_err-ask_field.ensures.err c.loop-field-test.true c.field-item.is in
    search rules
