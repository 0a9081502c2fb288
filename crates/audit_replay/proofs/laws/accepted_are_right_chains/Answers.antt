use Rattle.audit_replay.proofs.RightRules.{accepted_right}
use Rattle.audit_replay.proofs.laws.accepted_are_right_chains.Goals as goal

pub returns : goal.returns
returns c = accepted_right
