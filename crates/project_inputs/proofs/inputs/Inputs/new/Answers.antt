use Rattle.project_inputs.proofs.SealedRules.{named}
use Rattle.project_inputs.proofs.inputs.Inputs.new.Goals as goal

pub sealed_sources-requires : goal.sealed_sources-requires
sealed_sources-requires c = named c.files.result.now (rw c.files.ensures.files c.files.ensures.project)
