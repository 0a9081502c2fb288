use Rattle.kept_laws.proofs.Tests.{results_kept}
use Rattle.kept_laws.proofs.laws.kept_results_follow.Goals as goal

pub returns : goal.returns
returns c = results_kept
