use Rattle.shared_table.proofs.Told.{ask_held}
use Rattle.shared_table.proofs.locked.Locked.ask.Goals as goal

pub invariant_of-self-in_default : goal.invariant_of-self-in_default
invariant_of-self-in_default g c = ask_held c.args.w c.self.inside.counted c.ask-answer.new.self c.self.inside.told c.self.invariant c.args.key.now c.ask-answer.result c.ask-answer.ensures.gives
