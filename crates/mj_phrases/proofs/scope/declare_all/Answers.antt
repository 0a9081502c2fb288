use Rattle.std.proofs.Common.{◌∙◌, ◌++◌, take}
use Rattle.mj_phrases.proofs.Scopes.{covers_next, repeated_next, covers_done}
use Rattle.mj_phrases.proofs.scope.declare_all.Goals as goal

pub loop-variable-preserved : goal.loop-variable-preserved
loop-variable-preserved c = record {
  types = λ before covers.
      covers_next c.declare.new.types c.args.variables.now before _ c.variable-item.result c.loop-variable-test.true c.variable-item.is
      (c.in_ok-declare.ensures.types (before ++ take c.loop-variable.variable-index c.args.variables.now) (c.loop-variable.invariant.types before covers));
  repeated = λ before covers.
      repeated_next _ _ c.args.variables.now before _ c.variable-item.result c.loop-variable-test.true c.variable-item.is
      (c.in_ok-declare.ensures.repeated (before ++ take c.loop-variable.variable-index c.args.variables.now) (c.loop-variable.invariant.types before covers))
      ∙ c.loop-variable.invariant.repeated before covers;
}

pub returns-clause-types : goal.returns-clause-types
returns-clause-types c = λ before covers. covers_done c.loop-variable.types c.args.variables.now before _ c.loop-variable-test.false (c.loop-variable.invariant.types before covers)
