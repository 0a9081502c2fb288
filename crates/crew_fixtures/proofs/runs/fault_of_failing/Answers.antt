use Rattle.std.proofs.Common.{ℕ, None, Ok, subst}
use Rattle.recorder.specs.Projects.{Project}
use Rattle.query_rules.specs.Queries.{queries}
use Rattle.sessions.specs.Terms.{first_terms}
use Rattle.mini_java.specs.Sessions.{DriveGives}
use Rattle.crew_fixtures.proofs.runs.fault_of_failing.Goals as goal

pub returns-in-Ok : goal.returns-in-Ok
returns-in-Ok g c =
    let made = subst (λ (n : ℕ). DriveGives queries first_terms None c.in_ok-project.project n (Ok c.in-Ok.field-0)) c.of.ensures c.in-Ok.ensures.gives in
    (c.in-Ok.field-0.0, c.in-Ok.field-0.1, subst (λ (p : Project). DriveGives queries first_terms None p c.args.workers (Ok c.in-Ok.field-0)) c.in_ok-project.ensures made)
