use Rattle.std.proofs.Common.{rules}
use Rattle.mj_phrases.specs.Steps.{Aborts}
use Rattle.mj_typing.specs.Bodies.{types_step}
use Rattle.mj_typing.proofs.Walks.{types_more, types_up, types_done}
use Rattle.mj_typing.proofs.check.check_types.Goals as goal

pub returns-in_err-check_type-clause-err : goal.returns-in_err-check_type-clause-err
returns-in_err-check_type-clause-err g c =
    let h : Aborts g.A.Asking.stands g.A.Asking.halts (types_step c.args.variables.now c.args.mistakes.now.items) c.args.asking.now c.in_err-check_type.field-0.0 c.check_type.new.asking =
    types_up g.A.Asking.stands g.A.Asking.halts c.args.variables.now c.args.mistakes.now.items c.args.asking.now _ _ _ _ _ _ c.loop-variable.invariant.left c.loop-variable-test.true c.variable-item.is c.in_err-check_type.ensures.err in
    search rules

pub returns-in_err-check_type-clause-follows : goal.returns-in_err-check_type-clause-follows
returns-in_err-check_type-clause-follows g c = g.met.A.Asking.transitive _ _ _ c.loop-variable.invariant.follows c.in_err-check_type.ensures.follows

pub loop-variable-preserved : goal.loop-variable-preserved
loop-variable-preserved g c = record {
  left = types_more g.A.Asking.stands g.A.Asking.halts c.args.variables.now c.args.mistakes.now.items c.args.asking.now _ _ _ _ _ _ c.loop-variable.invariant.left c.loop-variable-test.true c.variable-item.is c.in_ok-check_type.ensures.ok;
  follows = g.met.A.Asking.transitive _ _ _ c.loop-variable.invariant.follows c.in_ok-check_type.ensures.follows;
}

pub returns-clause-ok : goal.returns-clause-ok
returns-clause-ok g c = types_done g.A.Asking.stands g.A.Asking.halts c.args.variables.now c.args.mistakes.now.items c.args.asking.now _ _ _ c.loop-variable.invariant.left c.loop-variable-test.false
