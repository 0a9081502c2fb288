use Rattle.std.proofs.Common.{◌≡◌, map, take}
use Rattle.named_files.specs.Projects.{names_of, sources_view}
use Rattle.named_files.proofs.project.file_names.Given as goal

abbrev pub invariant-loop-name : goal.invariant-loop-name
invariant-loop-name l = map (λ n. n.now) l.names.items ≡ names_of (sources_view (take l.name-index l.files))
