use Rattle.shared_table.proofs.Told.{begin_held}
use Rattle.shared_table.proofs.locked.Locked.begin_run.Goals as goal

pub invariant_of-self : goal.invariant_of-self
invariant_of-self g c = begin_held c.args.w c.self.inside.counted c.begin_run.new.self c.self.inside.told c.self.invariant c.args.key.now c.begin_run.result c.begin_run.ensures
