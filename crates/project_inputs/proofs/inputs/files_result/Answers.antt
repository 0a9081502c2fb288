use Rattle.std.proofs.Common.{sym, ap, ◌∙◌, subst}
use Rattle.result_bytes.specs.Storable.{AreDistinctNames}
use Rattle.named_files.specs.Projects.{names_of}
use Rattle.project_inputs.proofs.InputRules.{distinct_names}
use Rattle.project_inputs.proofs.inputs.files_result.Goals as goal

pub new-requires-clause-distinct : goal.new-requires-clause-distinct
new-requires-clause-distinct c =
    let e = c.in_ok-names.ensures ∙ ap names_of c.files.ensures.files in
    subst AreDistinctNames (sym e) (distinct_names c.args.project.now c.files.ensures.project)
