use Rattle.keeping.proofs.Following.{fitting_law}
use Rattle.keeping.proofs.laws.following_fits.Goals as goal

pub returns : goal.returns
returns c = fitting_law
