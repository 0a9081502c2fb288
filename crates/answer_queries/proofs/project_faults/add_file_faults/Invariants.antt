use Rattle.std.proofs.Common.{◌≡◌, ◌||◌, ◌++◌, drop, false}
use Rattle.answer_queries.specs.Trees.{named_trees}
use Rattle.answer_queries.specs.ProjectFaults.{any_main, files_faults}
use Rattle.answer_queries.proofs.project_faults.add_file_faults.Given as goal

-- what was found so far and what the rest has are what all have
abbrev pub invariant-loop-file : goal.invariant-loop-file
invariant-loop-file l = record {
  any : (l.main_before || any_main (drop l.file-index (named_trees l.files))) ≡ any_main (named_trees l.files);
  faults : l.faults.items ++ files_faults l.main_before (drop l.file-index (named_trees l.files)) ≡ l.initial.faults.items ++ files_faults false (named_trees l.files);
}
