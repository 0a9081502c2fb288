use Rattle.crew_fixtures.proofs.workers.fault_of_worker.Goals as goal

pub returns-in-Ok : goal.returns-in-Ok
returns-in-Ok g c = (c.in_ok-project.project, (c.in-Ok.field-0.0, c.in-Ok.field-0.1, c.in-Ok.ensures.gives))
