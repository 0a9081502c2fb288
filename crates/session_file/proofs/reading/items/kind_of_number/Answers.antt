use Rattle.item_ids.proofs.Numbers.{kind_found}
use Rattle.session_file.proofs.reading.items.kind_of_number.Goals as goal

pub returns : goal.returns
returns c = kind_found c.args.number c.from_number.result c.from_number.ensures.found c.from_number.ensures.known
