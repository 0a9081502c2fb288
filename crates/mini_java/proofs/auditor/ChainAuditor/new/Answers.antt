use Rattle.mini_java.proofs.TakenRules.{none_taken}
use Rattle.mini_java.proofs.auditor.ChainAuditor.new.Goals as goal

pub returns : goal.returns
returns c = none_taken _ c.new.ensures _ c.new-2.ensures
