use Rattle.declaration_laws.proofs.Edits.{edit_law}
use Rattle.declaration_laws.proofs.laws.edits_change_their_own_names.Goals as goal

pub returns : goal.returns
returns c = edit_law
