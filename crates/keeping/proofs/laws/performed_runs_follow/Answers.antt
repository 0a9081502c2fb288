use Rattle.keeping.proofs.Following.{performed_law}
use Rattle.keeping.proofs.laws.performed_runs_follow.Goals as goal

pub returns : goal.returns
returns g c = performed_law
