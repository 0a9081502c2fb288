use Rattle.std.proofs.Common.{ℕ, subst}
use Rattle.query_rules.specs.Queries.{queries}
use Rattle.sessions.specs.Terms.{first_terms}
use Rattle.sessions.specs.Sessions.{session_in}
use Rattle.mini_java.specs.Sessions.{IsSessionOf}
use Rattle.crew_fixtures.proofs.runs.counted_over.Goals as goal

pub returns-in-Ok : goal.returns-in-Ok
returns-in-Ok g c = record {
  reports = c.in-Ok.field-0-1;
  of = subst (λ (n : ℕ). IsSessionOf queries first_terms (session_in c.args.past) c.args.project.now n c.in-Ok.session c.in-Ok.field-0-1) c.of.ensures c.in-Ok.ensures.gives.2;
  executed = c.count-executed.ensures;
}
