use Rattle.chain_laws.proofs.GoingOn.{stands_apart}
use Rattle.chain_laws.proofs.laws.behind_a_right_chain.Goals as goal

pub returns : goal.returns
returns c = stands_apart
