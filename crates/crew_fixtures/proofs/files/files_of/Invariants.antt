use Rattle.std.proofs.Common.{◌≡◌, take}
use Rattle.named_files.specs.Projects.{sources_view}
use Rattle.crew_fixtures.specs.Made.{source_files}
use Rattle.crew_fixtures.proofs.files.files_of.Given as goal

abbrev pub invariant-loop-file : goal.invariant-loop-file
invariant-loop-file l = sources_view l.list.items ≡ source_files (take l.file-index l.files)
