use Rattle.mj_members.specs.Classes.{classes_view}
use Rattle.mj_classes.proofs.Turning.{turn_read}
use Rattle.mj_classes.proofs.declarations.Declarations.turn_at.Goals as goal

pub returns : goal.returns
returns c = turn_read (classes_view c.args.self.now.classes.items) c.args.self.now.turns.items c.args.at c.index.result.now c.args.self.now.turned c.requires c.index.ensures
