use Rattle.mj_parser.proofs.Bounds.{marks_below}
use Rattle.mj_parser.proofs.laws.mark_laws.Goals as goal

pub returns : goal.returns
returns c = marks_below
