use Rattle.std.proofs.Common.{rules}
use Rattle.mj_tree.specs.Views.{method_view}
use Rattle.mj_phrases.specs.Steps.{Aborts}
use Rattle.mj_typing.specs.Bodies.{method_step}
use Rattle.mj_typing.proofs.Walks.{goes_method, up_return}
use Rattle.mj_typing.proofs.check.check_method.Goals as goal

pub returns-in_err-check_return-clause-err : goal.returns-in_err-check_return-clause-err
returns-in_err-check_return-clause-err g c =
    let h : Aborts g.A.Asking.stands g.A.Asking.halts (method_step c.args.class.now (method_view c.args.method.now)) c.args.asking.now c.in_err-check_return.field-0.0 c.check_return.new.asking =
    up_return g.A.Asking.stands g.A.Asking.halts c.args.class.now (method_view c.args.method.now) c.in_ok-scope.scope c.of_method.new.mistakes.items _ _ _ _ _ _ _ c.in_ok-scope.ensures.value (rw c.new-mistakes.ensures.items at c.in_ok-scope.ensures.repeated) c.in_ok-check_declared.ensures.ok c.in_ok-check_statements.ensures.ok c.in_err-check_return.ensures.err in
    search rules

pub returns-clause-ok : goal.returns-clause-ok
returns-clause-ok g c = goes_method g.A.Asking.stands g.A.Asking.halts c.args.class.now (method_view c.args.method.now) c.in_ok-scope.scope c.of_method.new.mistakes.items _ _ _ _ _ _ _ c.in_ok-scope.ensures.value (rw c.new-mistakes.ensures.items at c.in_ok-scope.ensures.repeated) c.in_ok-check_declared.ensures.ok c.in_ok-check_statements.ensures.ok c.in_ok-check_return.ensures.ok
