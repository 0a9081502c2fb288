use Rattle.std.proofs.Common.{rules}
use Rattle.session_file.proofs.StepLaws.{start_took, start_breaks, start_short}
use Rattle.session_file.proofs.reading.files.read_start.Goals as goal

pub returns-then-eq-clause-value : goal.returns-then-eq-clause-value
returns-then-eq-clause-value g c = start_took c.in-Ok.ensures.pulled.1 (search rules)

pub returns-else-eq-clause-value : goal.returns-else-eq-clause-value
returns-else-eq-clause-value g c = start_breaks c.in-Ok.ensures.pulled.1 c.in-Ok.ensures.pulled.0 (search rules)

pub returns-in-Err-Breach-clause-value : goal.returns-in-Err-Breach-clause-value
returns-in-Err-Breach-clause-value g c = start_short (rw c.in-Err-Breach.field-0-is at c.in-Err-Breach.ensures.pulled).1
