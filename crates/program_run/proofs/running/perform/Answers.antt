use Rattle.std.proofs.Common.{refl}
use Rattle.std.proofs.lemmas.Result.{IfErr-weaker, IfOk-weaker}
use Rattle.command_line.specs.declared.asked.Words.TheVariants as words
use Rattle.program_run.proofs.Failures.{may_fail}
use Rattle.program_run.proofs.Runs.{told_alone}
use Rattle.program_run.proofs.running.perform.Goals as goal

pub returns-in-Scratch-clause-reports : goal.returns-in-Scratch-clause-reports
returns-in-Scratch-clause-reports g c = IfOk-weaker c.scratch.result _ _
    (λ report reports. told_alone g.R.File.Read.remaining _ _ (words.Scratch c.in-Scratch.asked) report (rw c.in-Scratch.is at c.in_ok-asked.ensures.asked) (refl, reports))
    c.scratch.ensures.reports

pub returns-in-Check-clause-reports : goal.returns-in-Check-clause-reports
returns-in-Check-clause-reports g c = IfOk-weaker c.check.result _ _
    (λ report reports. told_alone g.R.File.Read.remaining _ _ (words.Check c.in-Check.asked) report (rw c.in-Check.is at c.in_ok-asked.ensures.asked) (refl, reports))
    c.check.ensures.reports

pub returns-in-Audit-clause-reports : goal.returns-in-Audit-clause-reports
returns-in-Audit-clause-reports g c = IfOk-weaker c.audit.result _ _
    (λ report reports. record { asked = words.Audit c.in-Audit.asked; asks = rw c.in-Audit.is at c.in_ok-asked.ensures.asked; told = reports.0; said = reports.1; reports = reports.2 })
    c.audit.ensures.reports

pub returns-in-Show-clause-reports : goal.returns-in-Show-clause-reports
returns-in-Show-clause-reports g c = IfOk-weaker c.show.result _ _
    (λ report reports. told_alone g.R.File.Read.remaining _ _ (words.Show c.in-Show.asked) report (rw c.in-Show.is at c.in_ok-asked.ensures.asked) (refl, reports))
    c.show.ensures.reports

pub returns-in-Why-clause-reports : goal.returns-in-Why-clause-reports
returns-in-Why-clause-reports g c = IfOk-weaker c.why.result _ _
    (λ report reports. told_alone g.R.File.Read.remaining _ _ (words.Why c.in-Why.asked) report (rw c.in-Why.is at c.in_ok-asked.ensures.asked) (refl, reports))
    c.why.ensures.reports

pub returns-in-Explain-clause-reports : goal.returns-in-Explain-clause-reports
returns-in-Explain-clause-reports g c = IfOk-weaker c.explain_codes.result _ _
    (λ report reports. told_alone g.R.File.Read.remaining _ _ (words.Explain c.in-Explain.asked) report (rw c.in-Explain.is at c.in_ok-asked.ensures.asked) (refl, reports))
    c.explain_codes.ensures.reports

pub returns-in-Scratch-clause-refused : goal.returns-in-Scratch-clause-refused
returns-in-Scratch-clause-refused g c = IfErr-weaker c.scratch.result _ _
    (λ why fails. may_fail g.R.File.Read.remaining _ _ _ (words.Scratch c.in-Scratch.asked) (rw c.in-Scratch.is at c.in_ok-asked.ensures.asked) why fails)
    c.scratch.ensures.failed

pub returns-in-Check-clause-refused : goal.returns-in-Check-clause-refused
returns-in-Check-clause-refused g c = IfErr-weaker c.check.result _ _
    (λ why fails. may_fail g.R.File.Read.remaining _ _ _ (words.Check c.in-Check.asked) (rw c.in-Check.is at c.in_ok-asked.ensures.asked) why fails)
    c.check.ensures.failed

pub returns-in-Audit-clause-refused : goal.returns-in-Audit-clause-refused
returns-in-Audit-clause-refused g c = IfErr-weaker c.audit.result _ _
    (λ why fails. may_fail g.R.File.Read.remaining _ _ _ (words.Audit c.in-Audit.asked) (rw c.in-Audit.is at c.in_ok-asked.ensures.asked) why fails)
    c.audit.ensures.failed

pub returns-in-Show-clause-refused : goal.returns-in-Show-clause-refused
returns-in-Show-clause-refused g c = IfErr-weaker c.show.result _ _
    (λ why fails. may_fail g.R.File.Read.remaining _ _ _ (words.Show c.in-Show.asked) (rw c.in-Show.is at c.in_ok-asked.ensures.asked) why fails)
    c.show.ensures.failed

pub returns-in-Why-clause-refused : goal.returns-in-Why-clause-refused
returns-in-Why-clause-refused g c = IfErr-weaker c.why.result _ _
    (λ why fails. may_fail g.R.File.Read.remaining _ _ _ (words.Why c.in-Why.asked) (rw c.in-Why.is at c.in_ok-asked.ensures.asked) why fails)
    c.why.ensures.failed

pub returns-in-Explain-clause-refused : goal.returns-in-Explain-clause-refused
returns-in-Explain-clause-refused g c = IfErr-weaker c.explain_codes.result _ _
    (λ why fails. may_fail g.R.File.Read.remaining _ _ _ (words.Explain c.in-Explain.asked) (rw c.in-Explain.is at c.in_ok-asked.ensures.asked) why fails)
    c.explain_codes.ensures.failed
