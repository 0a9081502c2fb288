use Rattle.std.proofs.Common.{[], ◌∷◌, ◌++◌, ◌∙◌, ap}
use Rattle.std.proofs.lemmas.Result.{on_ok_weaker}
use Rattle.text_queries.specs.Index.{row_in}
use Rattle.text_queries.proofs.FirstRows.{rows_alone, rows_with_main}
use Rattle.text_queries.proofs.index.add_tree.Goals as goal

pub returns-in_ok-add_row-in-Some : goal.returns-in_ok-add_row-in-Some
returns-in_ok-add_row-in-Some c =
    on_ok_weaker c.add_classes.result
    (rows_with_main c.args.file.now c.root-root.result.now c.args.tree.now c.root-root.ensures.value c.args.rows.now.items c.add_classes.new.rows.items c.deref.result.now c.deref.ensures.value
    c.in-Some.main c.add_row.new.rows.items c.in-Some.is
    (c.in_ok-add_row-in-Some.ensures ∙ ap (λ n. c.args.rows.now.items ++ row_in c.args.file.now n ∷ []) c.name.ensures.value))
    c.add_classes.ensures

pub returns-in-None : goal.returns-in-None
returns-in-None c =
    on_ok_weaker c.add_classes-in-None.result
    (rows_alone c.args.file.now c.root-root.result.now c.args.tree.now c.root-root.ensures.value c.args.rows.now.items c.add_classes-in-None.new.rows.items c.deref-in-None.result.now c.deref-in-None.ensures.value
    c.in-None.is)
    c.add_classes-in-None.ensures
