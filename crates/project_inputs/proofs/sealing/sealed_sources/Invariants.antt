use Rattle.std.proofs.Common.{map, take}
use Rattle.named_files.specs.Projects.{source_view}
use Rattle.project_inputs.specs.Inputs.{AreSourcesOf}
use Rattle.project_inputs.proofs.sealing.sealed_sources.Given as goal

abbrev pub invariant-loop-name : goal.invariant-loop-name
invariant-loop-name l = AreSourcesOf (map source_view (take l.name-index l.files)) l.sources.items
