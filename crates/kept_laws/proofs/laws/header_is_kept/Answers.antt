use Rattle.kept_laws.proofs.Taking.{header_kept}
use Rattle.kept_laws.proofs.laws.header_is_kept.Goals as goal

pub returns : goal.returns
returns c = header_kept
