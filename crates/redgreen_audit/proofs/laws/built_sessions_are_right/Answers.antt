use Rattle.redgreen_audit.proofs.Built.{built}
use Rattle.redgreen_audit.proofs.laws.built_sessions_are_right.Goals as goal

pub returns : goal.returns
returns c = built
