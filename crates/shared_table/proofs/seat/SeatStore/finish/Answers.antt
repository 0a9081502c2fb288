use Rattle.std.proofs.Common.{rules, ◌∙◌, subst, refl, inr}
use Rattle.std.specs.Prelude.{IfOk}
use Rattle.recorder.specs.Runs.{OutcomeValue}
use Rattle.job_table.specs.Calls.{FinishGives}
use Rattle.shared_table.specs.Given.{IsGiven, IsKnown}
use Rattle.shared_table.proofs.Told.{told_on}
use Rattle.shared_table.proofs.seat.SeatStore.finish.Goals as goal

pub returns-clause-told : goal.returns-clause-told
returns-clause-told g c =
    let same = c.deref-2.ensures ∙ c.in-Ok.ensures in
    subst (λ (o : OutcomeValue). IfOk c.finish-answer.result (λ _. IsKnown g.R.Runner.queries g.J.Naming.opened c.finish-answer.new.memo o.key o.value)) same c.finish-answer.ensures.told

pub returns-clause-stays : goal.returns-clause-stays
returns-clause-stays g c = told_on g.R.Runner.queries g.J.Naming.opened c.args.self.now.memo c.finish-answer.new.memo c.finish-answer.new.memo c.finish-answer.ensures.stays refl

pub returns-clause-given : goal.returns-clause-given
returns-clause-given g c =
    let same = c.deref-2.ensures ∙ c.in-Ok.ensures in
    let given : IsGiven g.R.Runner.queries g.J.Naming.opened (λ t u. FinishGives t c.args.w c.deref-2.result.now c.finish-answer.result u) = search rules in
    inr (subst (λ (o : OutcomeValue). IsGiven g.R.Runner.queries g.J.Naming.opened (λ t u. FinishGives t c.args.w o c.finish-answer.result u)) same given)
