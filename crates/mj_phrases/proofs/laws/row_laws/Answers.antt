use Rattle.mj_phrases.proofs.NeverSilent.{decides, method_decides, main_decides}
use Rattle.mj_phrases.proofs.laws.row_laws.Goals as goal

pub returns : goal.returns
returns c = record { expression = decides; method = method_decides; main = main_decides }
