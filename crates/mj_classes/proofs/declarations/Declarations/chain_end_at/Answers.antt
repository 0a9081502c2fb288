use Rattle.mj_members.specs.Classes.{classes_view}
use Rattle.mj_classes.specs.Classes.{end_view}
use Rattle.mj_classes.proofs.Ancestors.{first_within}
use Rattle.mj_classes.proofs.Keeping.{turn_inside, end_at_turn}
use Rattle.mj_classes.proofs.declarations.Declarations.chain_end_at.Goals as goal

pub turn_at-requires : goal.turn_at-requires
turn_at-requires c = first_within (classes_view c.args.self.now.classes.items) c.args.first c.requires

pub end_at-requires : goal.end_at-requires
end_at-requires c = turn_inside (classes_view c.args.self.now.classes.items) c.requires.0 c.args.first c.turn_at.result c.requires.1 c.turn_at.ensures

pub returns : goal.returns
returns c = end_at_turn (classes_view c.args.self.now.classes.items) c.args.first c.turn_at.result (end_view c.end_at.result) c.turn_at.ensures c.end_at.ensures
