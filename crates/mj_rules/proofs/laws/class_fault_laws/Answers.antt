use Rattle.mj_rules.proofs.LowerLaws.{chain_laws}
use Rattle.mj_rules.proofs.LowerBodies.{body_laws}
use Rattle.mj_rules.proofs.ClassFaultLaws.{class_fault_law}
use Rattle.mj_rules.specs.Sentences.{classes_in}
use Rattle.mj_rules.proofs.Declared.{names_fit_in}
use Rattle.mj_rules.proofs.laws.class_fault_laws.Goals as goal

pub returns : goal.returns
returns c = λ profile files. class_fault_law chain_laws body_laws profile (classes_in files) (names_fit_in files)
