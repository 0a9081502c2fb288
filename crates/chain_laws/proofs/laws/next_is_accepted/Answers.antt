use Rattle.chain_laws.proofs.GoingOn.{next_accepted}
use Rattle.chain_laws.proofs.laws.next_is_accepted.Goals as goal

pub returns : goal.returns
returns c = λ queries laws files old new profile project answer count runs accepted. next_accepted queries files old new profile project answer count runs accepted laws
