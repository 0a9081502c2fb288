use Rattle.session_file.proofs.KeyLaws.{mark_found}
use Rattle.session_file.proofs.reading.items.mark_of.Goals as goal

pub returns : goal.returns
returns c = mark_found c.args.number c.from_number.result c.from_number.ensures.found c.from_number.ensures.known
