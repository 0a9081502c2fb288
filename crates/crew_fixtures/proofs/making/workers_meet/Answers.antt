use Rattle.std.proofs.Common.{subst}
use Rattle.recorder.specs.Projects.{Project}
use Rattle.crew_fixtures.specs.Made.{IsMadeBy}
use Rattle.crew_fixtures.proofs.making.workers_meet.Goals as goal

pub returns-in-Ok : goal.returns-in-Ok
returns-in-Ok g c =
    subst (λ (p : Project). IsMadeBy p c.args.workers) c.in_ok-project.ensures
    (record {
      session = c.in-Ok._made.0;
      reports = c.in-Ok._made.1;
      of = c.in-Ok.ensures.gives.2;
    })
