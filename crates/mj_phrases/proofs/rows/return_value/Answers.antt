use Rattle.std.proofs.Common.{rules, refl}
use Rattle.mj_answer.specs.declared.code.Code.TheVariants.{E319}
use Rattle.mj_phrases.specs.declared.verdict.Verdict.TheVariants.{Fine, Wrong}
use Rattle.mj_phrases.specs.Inquiries.{and_then}
use Rattle.mj_phrases.specs.Phrases.{fine}
use Rattle.mj_phrases.specs.Steps.{Aborts}
use Rattle.mj_phrases.specs.Table.{is_accepted, return_value}
use Rattle.mj_phrases.proofs.Asked.{goes_demand, up_demand}
use Rattle.mj_phrases.proofs.rows.return_value.Goals as goal

pub returns-in_err-is_accepted-clause-err : goal.returns-in_err-is_accepted-clause-err
unfolding return_value
returns-in_err-is_accepted-clause-err g c =
    let h : Aborts g.A.Asking.stands g.A.Asking.halts (and_then (return_value c.args.wanted.now c.args.value.now)) c.args.asking.now c.in_err-is_accepted.field-0.0 c.is_accepted.new.asking =
    up_demand g.A.Asking.stands g.A.Asking.halts (is_accepted c.args.value.now c.args.wanted.now) E319 fine _ _ _ c.in_err-is_accepted.ensures.err in
    search rules

pub returns-then-branch-clause-ok : goal.returns-then-branch-clause-ok
unfolding return_value
returns-then-branch-clause-ok g c =
    goes_demand g.A.Asking.stands (is_accepted c.args.value.now c.args.wanted.now) E319 fine c.in_ok-is_accepted.field-0 Fine _ _ c.in_ok-is_accepted.ensures.ok (rw c.if-branch.true refl)

pub returns-else-branch-clause-ok : goal.returns-else-branch-clause-ok
unfolding return_value
returns-else-branch-clause-ok g c =
    goes_demand g.A.Asking.stands (is_accepted c.args.value.now c.args.wanted.now) E319 fine c.in_ok-is_accepted.field-0 (Wrong E319) _ _ c.in_ok-is_accepted.ensures.ok (rw c.if-branch.false refl)
