use Rattle.keeping.proofs.Following.{backed_law}
use Rattle.keeping.proofs.laws.following_is_backed.Goals as goal

pub returns : goal.returns
returns c = backed_law
