use Rattle.std.proofs.Common.{rules, []}
use Rattle.recorder.specs.Programs.{GivesUp, each}
use Rattle.recorder.proofs.Rules.{loop_more, loop_up}
use Rattle.answer_queries.specs.CheckClass.{override_flag_step}
use Rattle.answer_queries.proofs.overrides.ask_methods.Goals as goal

pub loop-method-preserved : goal.loop-method-preserved
loop-method-preserved g c = record {
  at = loop_more (override_flag_step c.args.profile c.args.own.now c.args.other.now) c.args.methods.now [] c.args.recorder.now _ _ _ _ _ _ c.loop-method.invariant.at c.in_ok-ask_method.ensures.ok c.loop-method-test.true c.method-item.is;
  follows = g.met.D.Reader.transitive _ _ _ c.loop-method.invariant.follows c.in_ok-ask_method.ensures.follows;
}

pub returns-in_err-ask_method-clause-err : goal.returns-in_err-ask_method-clause-err
returns-in_err-ask_method-clause-err g c =
    let h : GivesUp (each (override_flag_step c.args.profile c.args.own.now c.args.other.now) c.args.methods.now []) c.args.recorder.now c.in_err-ask_method.field-0.0 c.ask_method.new.recorder =
    loop_up (override_flag_step c.args.profile c.args.own.now c.args.other.now) c.args.methods.now [] c.args.recorder.now _ _ _ _ _ _ c.loop-method.invariant.at c.in_err-ask_method.ensures.err c.loop-method-test.true c.method-item.is in
    search rules
