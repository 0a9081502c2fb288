use Rattle.std.proofs.Common.{◌<◌, ◌≤◌, ◌∙◌, length, arith}
use Rattle.named_files.specs.Projects.{source_view}
use Rattle.named_files.proofs.ProjectLemmas.{file_at, good_at, past_end}
use Rattle.mj_rules.proofs.Steps.{none_added, one_added}
use Rattle.mj_rules.proofs.project_faults.add_repeated_class.Goals as goal

pub returns-then-file-files : goal.returns-then-file-files
returns-then-file-files c =
    let end : length c.args.files.now ≤ c.args.file = omega arith in
    none_added c.args.faults.now.items _ c.args.number (past_end c.args.files.now c.args.file end)

pub new-requires-clause-some : goal.new-requires-clause-some
new-requires-clause-some c =
    let within : c.args.file < length c.args.files.now = omega arith in
    rw c.as_str.ensures.value (good_at c.args.files.now c.args.file c.index-files-file.result c.requires within c.index-files-file.is).0

pub new-requires-clause-short : goal.new-requires-clause-short
new-requires-clause-short c =
    let within : c.args.file < length c.args.files.now = omega arith in
    rw c.as_str.ensures.value (good_at c.args.files.now c.args.file c.index-files-file.result c.requires within c.index-files-file.is).1

pub returns : goal.returns
returns c =
    let within : c.args.file < length c.args.files.now = omega arith in
    one_added c.args.faults.now.items c.push.new.self.items c.in_ok-new.field-0 c.args.number _ (source_view c.index-files-file.result) c.in_ok-push.ensures.items
    (file_at c.args.files.now c.args.file c.index-files-file.result within c.index-files-file.is) (c.in_ok-new.ensures ∙ c.as_str.ensures.value)
