use Rattle.shared_table.proofs.Told.{mark_held}
use Rattle.shared_table.proofs.locked.Locked.mark.Goals as goal

pub invariant_of-self : goal.invariant_of-self
invariant_of-self g c = mark_held c.args.w c.self.inside.counted c.mark-answer.new.self c.self.inside.told c.self.invariant c.args.key.now c.mark-answer.result c.mark-answer.ensures.gives
