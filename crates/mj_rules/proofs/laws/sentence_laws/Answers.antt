use Rattle.mj_rules.proofs.LowerLaws.{sentence_law}
use Rattle.mj_rules.proofs.laws.sentence_laws.Goals as goal

pub returns : goal.returns
returns c = λ bytes tree. ((sentence_law bytes tree).0, (sentence_law bytes tree).1)
