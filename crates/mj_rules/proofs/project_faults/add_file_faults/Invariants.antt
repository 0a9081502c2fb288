use Rattle.std.proofs.Common.{◌≡◌, ◌||◌, ◌++◌, drop, false}
use Rattle.named_files.specs.Projects.{sources_view}
use Rattle.mj_rules.specs.FaultLists.{any_main, files_faults}
use Rattle.mj_rules.proofs.project_faults.add_file_faults.Given as goal

abbrev pub invariant-loop-number : goal.invariant-loop-number
invariant-loop-number l = record {
  any : (l.main_before || any_main (drop l.number (sources_view l.files))) ≡ any_main (sources_view l.files);
  faults : l.faults.items ++ files_faults l.main_before (drop l.number (sources_view l.files)) ≡ l.initial.faults.items ++ files_faults false (sources_view l.files);
}
