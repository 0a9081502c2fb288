use Rattle.std.proofs.Common.{◌≡◌, ◌||◌, ◌<◌, ◌≤◌, ◌∙◌, length, option_map, ap, sym, arith}
use Rattle.std.proofs.lemmas.List.{length-map}
use Rattle.mj_tree.specs.Views.{file_view}
use Rattle.named_files.specs.Projects.{source_view, sources_view}
use Rattle.mj_rules.specs.FaultLists.{has_main}
use Rattle.mj_rules.specs.Sentences.{file_of}
use Rattle.named_files.proofs.ProjectLemmas.{file_at, good_at}
use Rattle.mj_rules.proofs.Steps.{files_step, files_end, tree_at, tree_within, any_step, any_end}
use Rattle.mj_rules.proofs.project_faults.add_file_faults.Goals as goal
use Rattle.mj_rules.proofs.project_faults.add_file_faults.Goals.{then-main_before, else-main_before}

pub add_file_fault-requires-clause-some : goal.add_file_fault-requires-clause-some
add_file_fault-requires-clause-some c =
    let within : c.loop-number.number < length c.args.files.now = omega arith in
    rw c.as_str.ensures.value (good_at c.args.files.now c.loop-number.number c.index-files-number.result c.requires.names within c.index-files-number.is).0

pub add_file_fault-requires-clause-short : goal.add_file_fault-requires-clause-short
add_file_fault-requires-clause-short c =
    let within : c.loop-number.number < length c.args.files.now = omega arith in
    rw c.as_str.ensures.value (good_at c.args.files.now c.loop-number.number c.index-files-number.result c.requires.names within c.index-files-number.is).1

pub loop-number-preserved : goal.loop-number-preserved
loop-number-preserved c =
    let within : c.loop-number.number < length c.args.files.now = omega arith in
    let here = file_at c.args.files.now c.loop-number.number c.index-files-number.result within c.index-files-number.is in
    let tree = tree_at (sources_view c.args.files.now) c.args.trees.now c.loop-number.number (source_view c.index-files-number.result) c.index-trees-number.result c.requires.trees here c.index-trees-number.is in
    let either : c.if-main_before.main_before ≡ (c.loop-number.main_before || has_main (option_map file_view c.index-trees-number.result)) =
    elim c.if-main_before.branch [
      | then-main_before w ↦ w.main_before-is ∙ (w.if-main_before.true ∙ sym (ap (λ b. b || has_main (option_map file_view c.index-trees-number.result)) w.if-main_before.true))
      | else-main_before w ↦ w.main_before-is ∙ (w.has_main-main_before.ensures ∙ sym (ap (λ b. b || has_main (option_map file_view c.index-trees-number.result)) w.if-main_before.false))
    ] in
    let after : c.if-main_before.main_before ≡ (c.loop-number.main_before || has_main (file_of (source_view c.index-files-number.result).bytes)) =
    either ∙ ap (λ t. c.loop-number.main_before || has_main t) tree in
    record {
      any = rw after (any_step (sources_view c.args.files.now) c.loop-number.main_before c.loop-number.number (source_view c.index-files-number.result) here ∙ c.loop-number.invariant.any);
      faults = rw after (files_step (sources_view c.args.files.now) c.loop-number.main_before c.loop-number.number (source_view c.index-files-number.result) c.loop-number.faults.items c.add_file_fault.new.faults.items here
          (rw (c.as_str.ensures.value, tree) at c.in_ok-add_file_fault.ensures) ∙ c.loop-number.invariant.faults);
    }

pub bounds-trees-number : goal.bounds-trees-number
bounds-trees-number c =
    let within : c.loop-number.number < length c.args.files.now = omega arith in
    tree_within c.args.files.now c.args.trees.now c.loop-number.number c.requires.trees within

pub returns-clause-any : goal.returns-clause-any
returns-clause-any c =
    let past : length (sources_view c.args.files.now) ≤ c.loop-number.number = rw (length-map c.args.files.now source_view) (omega arith) in
    sym (any_end (sources_view c.args.files.now) c.loop-number.main_before c.loop-number.number past) ∙ c.loop-number.invariant.any

pub returns-clause-faults : goal.returns-clause-faults
returns-clause-faults c =
    let past : length (sources_view c.args.files.now) ≤ c.loop-number.number = rw (length-map c.args.files.now source_view) (omega arith) in
    sym (files_end (sources_view c.args.files.now) c.loop-number.main_before c.loop-number.number c.loop-number.faults.items past) ∙ c.loop-number.invariant.faults
