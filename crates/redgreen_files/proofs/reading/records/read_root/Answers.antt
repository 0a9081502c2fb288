use Rattle.redgreen_files.specs.Reading.{root_at}
use Rattle.redgreen_files.proofs.reading.records.read_root.Goals as goal

pub returns-clause-value : goal.returns-clause-value
unfolding root_at
returns-clause-value g c = c.read_key.ensures.value
