use Rattle.declaration_laws.proofs.Faults.{later_main_law}
use Rattle.declaration_laws.proofs.laws.later_mains_are_faults.Goals as goal

pub returns : goal.returns
returns c = later_main_law
