use Rattle.std.proofs.Common.{ap, length, sym, subst, ◌∙◌}
use Rattle.query_rules.specs.Queries.{queries}
use Rattle.sessions.specs.Sessions.{SessionValue, session_in, many_of}
use Rattle.sessions.specs.Spelling.{digest_of}
use Rattle.sessions.specs.declared.mark.Mark.TheVariants.{Executed, Green}
use Rattle.mini_java.specs.Sessions.{IsSessionOf}
use Rattle.crew_fixtures.proofs.making.session_over.Goals as goal

pub returns-in_ok-share-in-Ok : goal.returns-in_ok-share-in-Ok
returns-in_ok-share-in-Ok g c =
    let same = sym c.in_ok-share-in-Ok.ensures in
    record {
      reports = c.in-Ok.reports;
      of = subst (λ (s : SessionValue). IsSessionOf queries c.args.terms (session_in c.args.past) c.args.project.now c.args.workers s c.in-Ok.reports) same c.in-Ok.ensures.gives.2;
      digest = c.in_ok-made-in-Ok.ensures.digest ∙ ap digest_of same;
      records = c.in_ok-made-in-Ok.ensures.records ∙ ap (λ (s : SessionValue). length s.records) same;
      executed = c.in_ok-made-in-Ok.ensures.executed ∙ ap (λ (s : SessionValue). many_of Executed s.records) same;
      green = c.in_ok-made-in-Ok.ensures.green ∙ ap (λ (s : SessionValue). many_of Green s.records) same;
      history = c.in_ok-made-in-Ok.ensures.history;
      events = c.in_ok-made-in-Ok.ensures.events;
    }
