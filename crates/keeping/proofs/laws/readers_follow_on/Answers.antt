use Rattle.keeping.proofs.Readers.{reader_law}
use Rattle.keeping.proofs.laws.readers_follow_on.Goals as goal

pub returns : goal.returns
returns c = reader_law
