use Rattle.std.proofs.Common.{◌∙◌, ℕ, List, Some, cond, sym, ap}
use Rattle.std.specs.BTreeMap.{get}
use Rattle.std.specs.Ordering.{nat_cmp, is_eq}
use Rattle.std.specs.Cmp.Lexicographic.{slice_cmp}
use Rattle.mj_tree.proofs.Positions.{name_added}
use Rattle.file_index.proofs.methods.add_method.Goals as goal

pub returns-in_ok-insert : goal.returns-in_ok-insert
returns-in_ok-insert c =
    let new = sym c.contains_key.ensures ∙ c.if-not-contains_key.true in
    let puts = c.in_ok-insert.ensures.updates.0 in
    let key = c.in_ok-copy.ensures in
    name_added (get (slice_cmp nat_cmp) c.args.places.now) (get (slice_cmp nat_cmp) c.insert.new.self) c.args.name.now c.args.at new
    (λ q. puts q ∙ ap (λ (n : List ℕ). cond (is_eq (slice_cmp nat_cmp n q)) (Some c.args.at) (get (slice_cmp nat_cmp) c.args.places.now q)) key)
