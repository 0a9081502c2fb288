use Rattle.kept_laws.proofs.Climbing.{supers_kept}
use Rattle.kept_laws.proofs.laws.supers_are_kept.Goals as goal

pub returns : goal.returns
returns c = supers_kept
