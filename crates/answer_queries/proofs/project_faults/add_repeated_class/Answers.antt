use Rattle.std.proofs.Common.{◌∙◌, ap, option_map}
use Rattle.std.specs.Option.{option_copied}
use Rattle.std.proofs.lemmas.Result.{on_ok_weaker}
use Rattle.mj_answer.proofs.Searches.{option_copied-get}
use Rattle.answer_queries.specs.Trees.{named_tree}
use Rattle.answer_queries.proofs.Steps.{file_there, none_added, one_added}
use Rattle.answer_queries.proofs.project_faults.add_repeated_class.Goals as goal

pub returns-in-None : goal.returns-in-None
returns-in-None c =
    let found = option_copied-get c.args.files.now c.args.class.now.file c.get.result c.get.ensures.lookup.0 c.get.ensures.lookup.1 in
    none_added c.args.faults.now.items _ c.args.class.now.number (file_there c.args.files.now c.args.class.now.file (option_copied c.get.result) found ∙ ap (λ o. option_map named_tree (option_copied o)) c.in-None.is)

pub returns-in_ok-copy-in-Some : goal.returns-in_ok-copy-in-Some
returns-in_ok-copy-in-Some c =
    let found = option_copied-get c.args.files.now c.args.class.now.file c.get.result c.get.ensures.lookup.0 c.get.ensures.lookup.1 in
    on_ok_weaker c.note_fault.result
    (λ added. one_added c.args.faults.now.items c.note_fault.new.faults.items c.in_ok-copy-in-Some.field-0 c.args.class.now.number _ (named_tree c.in-Some.file.now) added
    (file_there c.args.files.now c.args.class.now.file (option_copied c.get.result) found ∙ ap (λ o. option_map named_tree (option_copied o)) c.in-Some.is)
    c.in_ok-copy-in-Some.ensures)
    c.note_fault.ensures
