use Rattle.std.proofs.Common.{◌≡◌, take}
use Rattle.recorder.specs.Backed.{keys}
use Rattle.job_table.proofs.room.read_keys.Given as goal

abbrev pub invariant-loop-read : goal.invariant-loop-read
invariant-loop-read l = l.copies.items ≡ keys (take l.read-index l.reads)
