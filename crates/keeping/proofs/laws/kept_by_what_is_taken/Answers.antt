use Rattle.keeping.proofs.Kept.{kept_law}
use Rattle.keeping.proofs.laws.kept_by_what_is_taken.Goals as goal

pub returns : goal.returns
returns c = kept_law
