use Rattle.diagnostic_lines.proofs.Marks.{mark_law}
use Rattle.diagnostic_lines.proofs.laws.mark_laws.Goals as goal

pub returns : goal.returns
returns c = mark_law
