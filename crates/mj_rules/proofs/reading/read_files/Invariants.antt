use Rattle.std.proofs.Common.{◌≡◌, take}
use Rattle.mj_classes.specs.Classes.{files_view}
use Rattle.named_files.specs.Projects.{sources_view}
use Rattle.mj_rules.specs.Sentences.{trees_of}
use Rattle.mj_rules.proofs.reading.read_files.Given as goal

abbrev pub invariant-loop-bytes : goal.invariant-loop-bytes
invariant-loop-bytes l = files_view l.trees.items ≡ trees_of (sources_view (take l.bytes-index l.bytes-items))
