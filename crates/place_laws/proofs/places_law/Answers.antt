use Rattle.place_laws.proofs.Files.{places}
use Rattle.place_laws.proofs.places_law.Goals as goal

pub returns : goal.returns
returns c = places
