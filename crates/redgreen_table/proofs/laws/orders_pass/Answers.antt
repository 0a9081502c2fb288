use Rattle.redgreen_table.proofs.Reordered.{reordered}
use Rattle.redgreen_table.proofs.laws.orders_pass.Goals as goal

pub returns : goal.returns
returns c = reordered
