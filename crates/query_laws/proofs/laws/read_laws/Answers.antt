use Rattle.query_laws.proofs.Firsts as firsts
use Rattle.query_laws.proofs.laws.read_laws.Goals as goal

pub returns : goal.returns
returns c = firsts.read_laws
