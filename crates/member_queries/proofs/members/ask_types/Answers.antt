use Rattle.std.specs.Option.{option_copied}
use Rattle.member_queries.proofs.members.ask_types.Goals as goal

pub returns-clause-row : goal.returns-clause-row
returns-clause-row g c = (option_copied c.signature.result, c.in_ok-add_types.ensures)
