use Rattle.redgreen_table.proofs.Stuck.{none}
use Rattle.redgreen_table.proofs.laws.stuck_keys_have_none.Goals as goal

pub returns : goal.returns
returns c = none
