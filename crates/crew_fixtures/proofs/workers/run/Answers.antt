use Rattle.std.proofs.Common.{Option, subst}
use Rattle.query_rules.specs.Queries.{queries}
use Rattle.sessions.specs.Sessions.{SessionValue}
use Rattle.mini_java.specs.Sessions.{IsSessionOf}
use Rattle.crew_fixtures.proofs.workers.run.Goals as goal

pub returns-in-Ok : goal.returns-in-Ok
returns-in-Ok g c = record {
  session = c.in-Ok.session;
  reports = c.in-Ok.field-0-1;
  of = subst (λ (past : Option SessionValue). IsSessionOf queries c.args.terms past c.args.project.now c.args.workers c.in-Ok.session c.in-Ok.field-0-1) c.in-Some.ensures c.in-Ok.ensures.gives.2;
  digest_is = c.digest.ensures;
}
