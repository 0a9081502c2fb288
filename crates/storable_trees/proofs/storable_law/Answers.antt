use Rattle.storable_trees.proofs.Storing.{storable}
use Rattle.storable_trees.proofs.storable_law.Goals as goal

pub returns : goal.returns
returns c = storable
