use Rattle.std.proofs.Common.{Some, ap, ◌∙◌, if◌then◌else◌}
use Rattle.std.specs.BTreeMap.{get}
use Rattle.std.specs.Ordering.{nat_cmp}
use Rattle.std.specs.Cmp.Lexicographic.{slice_cmp}
use Rattle.std.specs.Str.{bytes_eq}
use Rattle.mj_tree.specs.Trees.{Name}
use Rattle.kept_results.proofs.Merging.{put_is}
use Rattle.kept_results.proofs.rows.note.Goals as goal

pub returns : goal.returns
returns c = λ q.
    put_is (get (slice_cmp nat_cmp) c.args.changes.now) (get (slice_cmp nat_cmp) c.insert.new.self) c.in_ok-copy.field-0 c.args.change c.in_ok-insert.ensures.updates.0 q
    ∙ ap (λ (n : Name). if bytes_eq n q then Some c.args.change else get (slice_cmp nat_cmp) c.args.changes.now q) c.in_ok-copy.ensures
