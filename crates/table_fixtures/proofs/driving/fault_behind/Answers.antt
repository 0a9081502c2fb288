use Rattle.table_fixtures.proofs.driving.fault_behind.Goals as goal
use Rattle.table_fixtures.proofs.driving.fault_behind.Goals.{in-Ok, in-Err}

pub returns : goal.returns
returns g c = elim c.match-run_session.branch [
  | in-Ok w ↦ rw w.result-is (w.in-Ok.field-0.0, w.in-Ok.field-0.1, w.in-Ok.ensures.gives)
  | in-Err w ↦ rw w.result-is w.in-Err.ensures.gives
]
