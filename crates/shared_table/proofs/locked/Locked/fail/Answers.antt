use Rattle.shared_table.proofs.Told.{fail_held}
use Rattle.shared_table.proofs.locked.Locked.fail.Goals as goal

pub invariant_of-self : goal.invariant_of-self
invariant_of-self g c = fail_held c.args.w c.self.inside.counted c.fail.new.self c.self.inside.told c.self.invariant c.fail.result c.fail.ensures
