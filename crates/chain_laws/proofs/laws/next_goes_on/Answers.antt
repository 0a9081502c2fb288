use Rattle.chain_laws.proofs.GoingOn.{goes_on}
use Rattle.chain_laws.proofs.laws.next_goes_on.Goals as goal

pub returns : goal.returns
returns c = goes_on
