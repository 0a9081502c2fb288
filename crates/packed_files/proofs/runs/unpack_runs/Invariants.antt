use Rattle.std.proofs.Common.{length, map}
use Rattle.packed_files.proofs.RunSteps.{AreUnpackedTo}
use Rattle.packed_files.proofs.runs.unpack_runs.Given as goal

abbrev pub invariant-loop-rest : goal.invariant-loop-rest
invariant-loop-rest l = AreUnpackedTo l.bytes (map (λ r. r.now) l.runs.items) l.rest

abbrev pub decreases-loop-rest : goal.decreases-loop-rest
decreases-loop-rest l = length l.rest
