use Rattle.recorder.proofs.Whole.{run_performed}
use Rattle.recorder.proofs.laws.programs_are_runs.Goals as goal

pub returns : goal.returns
returns g c = λ prog_of mean reads t q h. run_performed mean reads q (prog_of q) (t.each q h)
