use Rattle.program_run.proofs.Failures.{help_report, unreadable_report}
use Rattle.program_run.proofs.running.report_of.Goals as goal

pub returns-in-Err-clause-unreadable : goal.returns-in-Err-clause-unreadable
returns-in-Err-clause-unreadable g c = λ names asks. unreadable_report _ _ _ names c.in-Err.failure c.failure_report.result
    c.failure_report.ensures.status c.failure_report.ensures.no_answer c.failure_report.ensures.notes (c.in-Err.ensures.audit names asks)

pub returns-in-Err-clause-answer : goal.returns-in-Err-clause-answer
returns-in-Err-clause-answer g c = help_report _ _ _ _ c.in-Err.failure c.failure_report.result
    c.failure_report.ensures.status c.failure_report.ensures.help c.in-Err.ensures.refused
