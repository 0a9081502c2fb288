use Rattle.std.proofs.Common.{length}
use Rattle.named_files.specs.Projects.{sources_view}
use Rattle.packed_files.proofs.Steps.{IsUnpackedTo}
use Rattle.packed_files.proofs.unpacking.unpack.Given as goal

abbrev pub invariant-loop-rest : goal.invariant-loop-rest
invariant-loop-rest l = IsUnpackedTo l.bytes (sources_view l.files.items) l.rest

abbrev pub decreases-loop-rest : goal.decreases-loop-rest
decreases-loop-rest l = length l.rest
