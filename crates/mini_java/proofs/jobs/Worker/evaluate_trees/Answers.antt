use Rattle.std.proofs.Common.{◌<◌, length, sym, subst}
use Rattle.named_files.specs.Projects.{IsProject}
use Rattle.project_inputs.proofs.InputRules.{good_name}
use Rattle.mini_java.proofs.jobs.Worker.evaluate_trees.Goals as goal

pub evaluate_tree-requires-clause-some : goal.evaluate_tree-requires-clause-some
evaluate_tree-requires-clause-some g c =
    let within : c.in-Some.at < length c.files-files.result.now = c.in-Some.ensures in
    rw c.as_str.ensures.value (good_name c.files-files.result.now (subst IsProject (sym c.files-files.ensures.files) c.files-files.ensures.project)
    c.in-Some.at c.index-files-at.result within c.index-files-at.is).0

pub evaluate_tree-requires-clause-short : goal.evaluate_tree-requires-clause-short
evaluate_tree-requires-clause-short g c =
    let within : c.in-Some.at < length c.files-files.result.now = c.in-Some.ensures in
    rw c.as_str.ensures.value (good_name c.files-files.result.now (subst IsProject (sym c.files-files.ensures.files) c.files-files.ensures.project)
    c.in-Some.at c.index-files-at.result within c.index-files-at.is).1
