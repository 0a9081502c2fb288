use Rattle.std.proofs.Common.{◌≡◌, map, take}
use Rattle.named_files.specs.Projects.{source_view, names_of}
use Rattle.project_inputs.proofs.inputs.file_names.Given as goal

abbrev pub invariant-loop-name : goal.invariant-loop-name
invariant-loop-name l = l.names.items ≡ names_of (map source_view (take l.name-index l.files))
