use Rattle.declaration_laws.proofs.Faults.{later_class_law}
use Rattle.declaration_laws.proofs.laws.later_classes_are_faults.Goals as goal

pub returns : goal.returns
returns c = later_class_law
