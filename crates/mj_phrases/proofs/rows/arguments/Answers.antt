use Rattle.std.proofs.Common.{rules, refl}
use Rattle.mj_phrases.specs.declared.asking.Stop.TheVariants.{OutOfMemory}
use Rattle.mj_answer.specs.declared.code.Code.TheVariants.{E313}
use Rattle.mj_phrases.specs.declared.verdict.Verdict.TheVariants.{Is, Wrong}
use Rattle.mj_phrases.specs.Inquiries.{and_then}
use Rattle.mj_phrases.specs.Steps.{Proceeds, Aborts}
use Rattle.mj_phrases.specs.Table.{arguments}
use Rattle.mj_phrases.proofs.Asked.{goes_miscounted, goes_called, up_called, memory}
use Rattle.mj_phrases.proofs.rows.arguments.Goals as goal

pub returns-in_err-are_accepted-clause-err : goal.returns-in_err-are_accepted-clause-err
returns-in_err-are_accepted-clause-err g c =
    let h : Aborts g.A.Asking.stands g.A.Asking.halts (and_then (arguments (g.A.Method.MethodSignature.sig c.args.method.now) c.args.types.now)) c.args.asking.now c.in_err-are_accepted.field-0.0 c.are_accepted.new.asking =
    up_called g.A.Asking.stands g.A.Asking.halts (g.A.Method.MethodSignature.sig c.args.method.now) c.args.types.now _ c.formals-formals.result.now _ _ c.formals-formals.ensures c.if-types-formals.false c.in_err-are_accepted.ensures.err in
    search rules

pub returns-then-not-branch-clause-ok : goal.returns-then-not-branch-clause-ok
returns-then-not-branch-clause-ok g c =
    goes_called g.A.Asking.stands g.A.Asking.halts (g.A.Method.MethodSignature.sig c.args.method.now) c.args.types.now _ c.formals-formals.result.now c.in_ok-are_accepted.field-0 (Wrong E313) _ c.formals-formals.ensures c.if-types-formals.false c.in_ok-are_accepted.ensures.ok (rw c.if-not-branch.true refl)

pub returns-in_err-copy-clause-err : goal.returns-in_err-copy-clause-err
returns-in_err-copy-clause-err g c =
    let whole : Proceeds g.A.Asking.stands (and_then (arguments (g.A.Method.MethodSignature.sig c.args.method.now) c.args.types.now)) c.args.asking.now (Is (g.A.Method.MethodSignature.sig c.args.method.now).returns) c.are_accepted.new.asking =
    goes_called g.A.Asking.stands g.A.Asking.halts (g.A.Method.MethodSignature.sig c.args.method.now) c.args.types.now _ c.formals-formals.result.now c.in_ok-are_accepted.field-0 _ _ c.formals-formals.ensures c.if-types-formals.false c.in_ok-are_accepted.ensures.ok (rw c.if-not-branch.false refl) in
    let h : Aborts g.A.Asking.stands g.A.Asking.halts (and_then (arguments (g.A.Method.MethodSignature.sig c.args.method.now) c.args.types.now)) c.args.asking.now OutOfMemory c.are_accepted.new.asking =
    memory g.A.Asking.stands g.A.Asking.halts OutOfMemory g.met.A.Asking.wanting _ _ _ _ whole in
    search rules

pub returns-clause-ok : goal.returns-clause-ok
returns-clause-ok g c =
    goes_called g.A.Asking.stands g.A.Asking.halts (g.A.Method.MethodSignature.sig c.args.method.now) c.args.types.now _ c.formals-formals.result.now c.in_ok-are_accepted.field-0 (Is c.in_ok-copy.field-0) _ c.formals-formals.ensures c.if-types-formals.false c.in_ok-are_accepted.ensures.ok (rw (c.if-not-branch.false, c.in_ok-copy.ensures, c.returns.ensures) refl)

pub returns-then-types-formals-clause-ok : goal.returns-then-types-formals-clause-ok
returns-then-types-formals-clause-ok g c = goes_miscounted g.A.Asking.stands (g.A.Method.MethodSignature.sig c.args.method.now) c.args.types.now c.formals-formals.result.now _ c.formals-formals.ensures c.if-types-formals.true
