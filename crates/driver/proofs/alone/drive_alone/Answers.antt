use Rattle.std.proofs.Common.{◌∙◌, subst}
use Rattle.sessions.specs.Sessions.{session_in}
use Rattle.shared_table.specs.Tables.{TableValue}
use Rattle.driver.specs.Sessions.{AreEventsOf}
use Rattle.driver.proofs.alone.drive_alone.Goals as goal

pub returns-in_ok-done-in-Ok-clause-next : goal.returns-in_ok-done-in-Ok-clause-next
returns-in_ok-done-in-Ok-clause-next g c apart =
    let made = c.in_ok-done-in-Ok.ensures in
    let events = subst (λ (t : TableValue). AreEventsOf g.R.Runner.queries t.terms t.past t.project made.history c.in_ok-done-in-Ok.done.0) (c.new-opening.ensures.table ∙ c.in-Ok.ensures.1) made.events in
    c.sessions_are_next.ensures.made g.R.Runner.queries c.keeps_laws.ensures c.args.basis.terms (session_in c.args.basis.past) c.args.project.now made.history c.in_ok-done-in-Ok.done.0
    c.files-files.ensures.project c.past_is_session.ensures c.records-records.ensures.session events apart

pub returns-in_ok-done-in-Ok-clause-only : goal.returns-in_ok-done-in-Ok-clause-only
returns-in_ok-done-in-Ok-clause-only g c next is apart =
    let made = c.in_ok-done-in-Ok.ensures in
    let events = subst (λ (t : TableValue). AreEventsOf g.R.Runner.queries t.terms t.past t.project made.history c.in_ok-done-in-Ok.done.0) (c.new-opening.ensures.table ∙ c.in-Ok.ensures.1) made.events in
    c.sessions_are_next.ensures.next g.R.Runner.queries c.keeps_laws.ensures c.args.basis.terms (session_in c.args.basis.past) c.args.project.now made.history c.in_ok-done-in-Ok.done.0 next
    c.files-files.ensures.project c.past_is_session.ensures c.records-records.ensures.session events is apart
