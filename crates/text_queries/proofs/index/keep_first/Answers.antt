use Rattle.std.proofs.Common.{sym, ◌∙◌}
use Rattle.std.specs.BTreeMap.{get}
use Rattle.std.specs.Ordering.{nat_cmp}
use Rattle.std.specs.Cmp.Lexicographic.{slice_cmp}
use Rattle.mj_tree.proofs.Positions.{name_added}
use Rattle.text_queries.proofs.index.keep_first.Goals as goal

pub returns-in_ok-insert : goal.returns-in_ok-insert
returns-in_ok-insert c =
    name_added (get (slice_cmp nat_cmp) c.args.files.now) (get (slice_cmp nat_cmp) c.insert.new.self) c.args.row.class c.args.row.file
    (sym c.contains_key.ensures ∙ c.if-not-contains_key.true) c.in_ok-insert.ensures.updates.0
