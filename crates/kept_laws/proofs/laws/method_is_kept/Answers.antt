use Rattle.kept_laws.proofs.Taking.{method_kept}
use Rattle.kept_laws.proofs.laws.method_is_kept.Goals as goal

pub returns : goal.returns
returns c = method_kept
