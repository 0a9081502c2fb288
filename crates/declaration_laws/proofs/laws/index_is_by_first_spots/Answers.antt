use Rattle.declaration_laws.proofs.Firsts.{index_law}
use Rattle.declaration_laws.proofs.laws.index_is_by_first_spots.Goals as goal

pub returns : goal.returns
returns c = index_law
