use Rattle.mj_rules.proofs.LowerLaws.{sentence_law}
use Rattle.mj_rules.proofs.ProjectFaultLaws.{project_fault_law}
use Rattle.mj_rules.proofs.laws.project_fault_laws.Goals as goal

pub returns : goal.returns
returns c = project_fault_law sentence_law
