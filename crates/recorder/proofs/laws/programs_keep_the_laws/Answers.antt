use Rattle.recorder.proofs.ProgramLaws.{program_laws}
use Rattle.recorder.proofs.laws.programs_keep_the_laws.Goals as goal

pub returns : goal.returns
returns c = program_laws
