use Rattle.std.proofs.Common.{◌≡◌, map, take}
use Rattle.std.specs.List.{AllByRecursion}
use Rattle.named_files.specs.Projects.{source_view}
use Rattle.project_inputs.specs.Inputs.{file_of, IsSource}
use Rattle.project_inputs.proofs.inputs.sources_of.Given as goal

abbrev pub invariant-loop-at : goal.invariant-loop-at
invariant-loop-at l = (map file_of l.sources.entries ≡ map source_view (take l.at l.files)) × AllByRecursion IsSource l.sources.entries
