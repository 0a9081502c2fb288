use Rattle.recorder.proofs.ProgramLaws.{programs_alike}
use Rattle.recorder.proofs.laws.programs_read_alike.Goals as goal

pub returns : goal.returns
returns c = programs_alike
