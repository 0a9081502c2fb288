use Rattle.mj_members.specs.Classes.{classes_view}
use Rattle.mj_classes.specs.Classes.{end_view}
use Rattle.mj_classes.proofs.Keeping.{turn_inside, chain_is}
use Rattle.mj_classes.proofs.declarations.Declarations.chain_at.Goals as goal

pub end_at-requires : goal.end_at-requires
end_at-requires c = turn_inside (classes_view c.args.self.now.classes.items) c.requires.0 c.args.first c.turn_at-turn.result c.requires.1 c.turn_at-turn.ensures

pub returns : goal.returns
returns c =
    chain_is (classes_view c.args.self.now.classes.items) c.args.first c.turn_at-turn.result (classes_view c.keep_chain.new.classes.items) (end_view c.end_at.result) c.turn_at-turn.ensures c.end_at.ensures (λ d e. c.in_ok-keep_chain.ensures d e)
