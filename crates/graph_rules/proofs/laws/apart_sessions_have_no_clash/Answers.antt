use Rattle.graph_rules.proofs.SessionRules.{no_clash}
use Rattle.graph_rules.proofs.laws.apart_sessions_have_no_clash.Goals as goal

pub returns : goal.returns
returns c = no_clash
