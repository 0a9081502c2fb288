use Rattle.rule_laws.proofs.Answers.{faults_inside}
use Rattle.rule_laws.proofs.project_laws.method_fault_laws.Goals as goal

pub returns : goal.returns
returns c = faults_inside
