use Rattle.byte_readers.proofs.Loop.{after_some}
use Rattle.byte_readers.proofs.lists.is_after.Goals as goal

pub returns-in-Some : goal.returns-in-Some
returns-in-Some g c = rw (after_some _ _ _ _ c.in-Some.ensures.value) c.precedes.ensures
