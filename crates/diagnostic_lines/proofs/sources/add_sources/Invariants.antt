use Rattle.std.proofs.Common.{◌≡◌, take}
use Rattle.mj_classes.specs.Classes.{files_view}
use Rattle.named_files.specs.Projects.{sources_view}
use Rattle.mj_rules.specs.Sentences.{trees_of}
use Rattle.diagnostic_lines.proofs.sources.add_sources.Given as goal

abbrev pub invariant-loop-file : goal.invariant-loop-file
invariant-loop-file l = record {
  texts : l.texts.items ≡ sources_view (take l.file-index l.files);
  trees : files_view l.trees.items ≡ trees_of (sources_view (take l.file-index l.files));
}
