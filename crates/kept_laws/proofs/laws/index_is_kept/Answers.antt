use Rattle.kept_laws.proofs.Taking.{index_kept}
use Rattle.kept_laws.proofs.laws.index_is_kept.Goals as goal

pub returns : goal.returns
returns c = index_kept
