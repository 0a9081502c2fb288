use Rattle.redgreen_audit.proofs.Complete.{right_none}
use Rattle.redgreen_audit.proofs.laws.right_chains_are_accepted.Goals as goal

pub returns : goal.returns
returns g c = λ prog_of s t chain k n record_fault alike right refused. right_none prog_of g.C.Client.makes alike s t chain k n record_fault right refused
