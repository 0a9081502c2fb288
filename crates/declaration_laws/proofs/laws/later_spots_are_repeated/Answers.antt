use Rattle.declaration_laws.proofs.Firsts.{repeat_law}
use Rattle.declaration_laws.proofs.laws.later_spots_are_repeated.Goals as goal

pub returns : goal.returns
returns c = repeat_law
