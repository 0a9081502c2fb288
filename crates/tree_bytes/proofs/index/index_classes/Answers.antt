use Rattle.std.proofs.Common.{◌∙◌, ℕ, List, sym, ap, cond, Some}
use Rattle.std.specs.BTreeMap.{get}
use Rattle.std.specs.Ordering.{nat_cmp, is_eq}
use Rattle.std.specs.Cmp.Lexicographic.{slice_cmp}
use Rattle.tree_bytes.specs.Stored.{stored_class}
use Rattle.mj_tree.proofs.NamePlaces.{index_kept, index_added}
use Rattle.tree_bytes.proofs.index.index_classes.Goals as goal
use Rattle.tree_bytes.proofs.index.index_classes.Goals.{then-not-contains_key+in_ok-copy+in_ok-insert, else-not-contains_key}

pub loop-at-preserved : goal.loop-at-preserved
loop-at-preserved c =
    elim c.if-not-contains_key.branch [
      | then-not-contains_key+in_ok-copy+in_ok-insert w ↦
          let new = sym c.contains_key.ensures ∙ w.if-not-contains_key.true in
          let puts = w.in_ok-insert.ensures.updates.0 in
          let key = w.in_ok-copy.ensures in
          rw w.places-is
          (index_added stored_class (λ k. k.name) c.args.classes.now c.loop-at.at c.index-classes-at.result (get (slice_cmp nat_cmp) c.loop-at.places) (get (slice_cmp nat_cmp) w.insert.new.self)
          c.loop-at-test.true c.index-classes-at.is c.loop-at.invariant new
          (λ q. puts q ∙ ap (λ (n : List ℕ). cond (is_eq (slice_cmp nat_cmp n q)) (Some c.loop-at.at) (get (slice_cmp nat_cmp) c.loop-at.places q)) key))
      | else-not-contains_key w ↦
          let old = sym c.contains_key.ensures ∙ w.if-not-contains_key.false in
          rw w.places-is
          (index_kept stored_class (λ k. k.name) c.args.classes.now c.loop-at.at c.index-classes-at.result (get (slice_cmp nat_cmp) c.loop-at.places) c.loop-at-test.true c.index-classes-at.is c.loop-at.invariant old)
    ]
