use Rattle.std.proofs.Common.{None, subst}
use Rattle.recorder.specs.Projects.{Project}
use Rattle.query_rules.specs.Queries.{queries}
use Rattle.sessions.specs.Terms.{first_terms}
use Rattle.mini_java.specs.Sessions.{IsSessionOf}
use Rattle.crew_fixtures.proofs.runs.digest_by.Goals as goal

pub returns-in-Ok : goal.returns-in-Ok
returns-in-Ok g c = record {
  session = c.in-Ok.session;
  reports = c.in-Ok.field-0-1;
  of = subst (λ (p : Project). IsSessionOf queries first_terms None p c.args.steps.workers c.in-Ok.session c.in-Ok.field-0-1) c.in_ok-project.ensures c.in-Ok.ensures.gives.2;
  digest_is = c.digest.ensures;
}
