use Rattle.mj_rules.proofs.LowerLaws.{chain_laws, member_laws, sentence_law}
use Rattle.mj_rules.proofs.LowerBodies.{body_laws}
use Rattle.mj_rules.proofs.Answering.{answer_law}
use Rattle.mj_rules.proofs.laws.answer_laws.Goals as goal

pub returns : goal.returns
returns c = λ profile files answer. answer_law chain_laws member_laws body_laws sentence_law profile files answer
