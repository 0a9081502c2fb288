use Rattle.recorder.proofs.Whole.{run_performed}
use Rattle.recorder.proofs.laws.tied_programs_are_runs.Goals as goal

pub returns : goal.returns
returns g c = λ mean reads q prog t. run_performed mean reads q prog t
