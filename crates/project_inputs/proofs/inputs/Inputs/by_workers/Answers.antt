use Rattle.project_inputs.proofs.SealedRules.{named}
use Rattle.project_inputs.proofs.inputs.Inputs.by_workers.Goals as goal

pub sealed_by-requires-after_bounds : goal.sealed_by-requires-after_bounds
sealed_by-requires-after_bounds g c κs within = named c.files.result.now (rw c.files.ensures.files c.files.ensures.project)
