use Rattle.std.proofs.Common.{◌≡◌, map, take, length}
use Rattle.std.specs.Arc.{arc_value}
use Rattle.named_files.specs.Projects.{sources_view}
use Rattle.audit_replay.specs.Projects.{AreFilesAlike}
use Rattle.audit_replay.proofs.sum.files.are_alike.Given as goal

abbrev pub invariant-loop-i : goal.invariant-loop-i
invariant-loop-i l = record {
  as_long : length l.names ≡ length l.files;
  as_many : length l.texts ≡ length l.files;
  so_far : AreFilesAlike (take l.i l.names) (take l.i (map arc_value l.texts)) (take l.i (sources_view l.files));
}
