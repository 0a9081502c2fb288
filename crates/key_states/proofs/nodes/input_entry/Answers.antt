use Rattle.std.proofs.Common.{refl}
use Rattle.key_states.proofs.nodes.input_entry.Goals as goal

pub returns : goal.returns
returns c = rw (c.requires.none, c.in-Some.ensures) refl
