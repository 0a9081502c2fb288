use Rattle.std.proofs.Common.{[]}
use Rattle.linkable.proofs.checking.file_in_memory.Goals as goal

pub returns-in-Ok : goal.returns-in-Ok
returns-in-Ok c = c.in-Ok.ensures.holds [] c.new-file.ensures.bytes
