use Rattle.std.proofs.Common.{◌≡◌, ◌||◌, ◌≤◌, ◌∙◌, length, ap, sym, arith}
use Rattle.mj_rules.specs.FaultLists.{has_main}
use Rattle.answer_queries.specs.Trees.{named_tree, named_trees}
use Rattle.answer_queries.proofs.Steps.{file_at, as_many, any_step, any_end, files_step, files_end}
use Rattle.answer_queries.proofs.project_faults.add_file_faults.Goals as goal
use Rattle.answer_queries.proofs.project_faults.add_file_faults.Goals.{then-main_before, else-main_before}

pub loop-file-preserved : goal.loop-file-preserved
loop-file-preserved c =
    let file = c.file-item.result in
    let at = file_at c.args.files.now c.loop-file.file-index file c.loop-file-test.true c.file-item.is in
    let after : c.if-main_before.main_before ≡ (c.loop-file.main_before || has_main (named_tree file).1) =
    elim c.if-main_before.branch [
      | then-main_before w ↦ w.main_before-is ∙ (w.if-main_before.true ∙ sym (ap (λ b. b || has_main (named_tree file).1) w.if-main_before.true))
      | else-main_before w ↦ w.main_before-is ∙ (w.has_main-main_before.ensures ∙ (ap has_main w.tree.ensures ∙ sym (ap (λ b. b || has_main (named_tree file).1) w.if-main_before.false)))
    ] in
    record {
      any = rw after (any_step (named_trees c.args.files.now) c.loop-file.main_before c.loop-file.file-index (named_tree file) at ∙ c.loop-file.invariant.any);
      faults = rw after (files_step (named_trees c.args.files.now) c.loop-file.main_before c.loop-file.file-index (named_tree file) c.loop-file.faults.items c.add_file_fault.new.faults.items at c.in_ok-add_file_fault.ensures ∙ c.loop-file.invariant.faults);
    }

pub returns-clause-any : goal.returns-clause-any
returns-clause-any c =
    let many = as_many c.args.files.now in
    let end : length (named_trees c.args.files.now) ≤ c.loop-file.file-index = omega arith in
    sym (any_end (named_trees c.args.files.now) c.loop-file.main_before c.loop-file.file-index end) ∙ c.loop-file.invariant.any

pub returns-clause-faults : goal.returns-clause-faults
returns-clause-faults c =
    let many = as_many c.args.files.now in
    let end : length (named_trees c.args.files.now) ≤ c.loop-file.file-index = omega arith in
    sym (files_end (named_trees c.args.files.now) c.loop-file.main_before c.loop-file.file-index c.loop-file.faults.items end) ∙ c.loop-file.invariant.faults
