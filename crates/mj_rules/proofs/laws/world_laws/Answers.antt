use Rattle.mj_rules.proofs.WorldLaws.{world_law}
use Rattle.mj_rules.proofs.laws.world_laws.Goals as goal

pub returns : goal.returns
returns c = world_law
