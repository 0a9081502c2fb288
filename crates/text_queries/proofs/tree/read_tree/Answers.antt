use Rattle.std.proofs.Common.{sym, ap, ◌∙◌}
use Rattle.std.specs.Prelude.{option_map}
use Rattle.mj_tree.specs.Views.{file_view}
use Rattle.text_queries.proofs.Sentences.{sentence_fits}
use Rattle.text_queries.proofs.tree.read_tree.Goals as goal

pub new-requires : goal.new-requires
new-requires c = sentence_fits c.args.bytes.now (file_view c.in-Some.root) (ap (option_map file_view) (sym c.in-Some.is) ∙ c.in_ok-tree.ensures)
