use Rattle.std.proofs.Common.{◌∙◌, subst, sym}
use Rattle.ordered_names.specs.Order.{IsAscendingByName}
use Rattle.result_bytes.specs.declared.files.IndexRow.{IndexRow}
use Rattle.text_queries.proofs.Firsts.{ordered_entries}
use Rattle.text_queries.proofs.FirstRows.{first_are, first_ascend}
use Rattle.text_queries.proofs.index.index_of.Goals as goal

pub new-requires : goal.new-requires
new-requires c =
    subst (IsAscendingByName (λ (row : IndexRow). row.class)) (sym c.in_ok-rows.ensures.value)
    (first_ascend c.args.rows.items c.in_ok-files.files.entries (ordered_entries c.in_ok-files.files.entries c.in_ok-rows.ensures.ordered) c.in_ok-files.ensures)

pub returns : goal.returns
returns c =
    c.new.ensures
    ∙ (c.in_ok-rows.ensures.value
    ∙ first_are c.args.rows.items c.in_ok-files.files.entries (ordered_entries c.in_ok-files.files.entries c.in_ok-rows.ensures.ordered) c.in_ok-files.ensures)
