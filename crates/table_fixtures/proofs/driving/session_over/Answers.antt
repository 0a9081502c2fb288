use Rattle.sessions.specs.Sessions.{session_in}
use Rattle.table_fixtures.proofs.Reporting.{reported}
use Rattle.table_fixtures.proofs.driving.session_over.Goals as goal

pub returns-in-Ok : goal.returns-in-Ok
returns-in-Ok g c =
    reported (session_in c.args.past) c.args.project.now c.args.counts.now c.in-Ok.session c.in-Ok.reports c.tells.result
    c.in-Ok.ensures.gives c.tells.ensures c.session_if.result c.session_if.ensures.same c.session_if.ensures.holds
