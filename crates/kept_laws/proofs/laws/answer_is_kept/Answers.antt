use Rattle.kept_laws.proofs.Answering.{answer_kept}
use Rattle.kept_laws.proofs.laws.answer_is_kept.Goals as goal

pub returns : goal.returns
returns c = answer_kept
