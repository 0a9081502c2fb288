use Rattle.std.proofs.Common.{◌≡◌, ◌∙◌, ℕ, List, sym, ap, cond, Some}
use Rattle.std.specs.Prelude.{is_some}
use Rattle.std.specs.BTreeMap.{get}
use Rattle.std.specs.Ordering.{nat_cmp, is_eq}
use Rattle.std.specs.Cmp.Lexicographic.{slice_cmp}
use Rattle.mj_members.specs.Classes.{class_ref_view}
use Rattle.mj_tree.proofs.NamePlaces.{index_kept, index_added}
use Rattle.mj_classes.proofs.declarations.index_by_name.Goals as goal
use Rattle.mj_classes.proofs.declarations.index_by_name.Goals.{then-not-contains_key+in_ok-copy+in_ok-insert, else-not-contains_key}

pub loop-at-preserved : goal.loop-at-preserved
loop-at-preserved c =
    let met : c.contains_key.result ≡ is_some (get (slice_cmp nat_cmp) c.loop-at.by_name c.name-name.result.now) = c.contains_key.ensures in
    let name = c.name-name.ensures in
    elim c.if-not-contains_key.branch [
      | then-not-contains_key+in_ok-copy+in_ok-insert w ↦
          let new = ap (λ (n : List ℕ). is_some (get (slice_cmp nat_cmp) c.loop-at.by_name n)) (sym name) ∙ (sym met ∙ w.if-not-contains_key.true) in
          let puts = w.in_ok-insert.ensures.updates.0 in
          let key = w.in_ok-copy.ensures ∙ name in
          rw w.by_name-is
          (index_added class_ref_view (λ k. k.name) c.args.classes.now c.loop-at.at c.index-classes-at.result (get (slice_cmp nat_cmp) c.loop-at.by_name) (get (slice_cmp nat_cmp) w.insert.new.self)
          c.loop-at-test.true c.index-classes-at.is c.loop-at.invariant new
          (λ q. puts q ∙ ap (λ (n : List ℕ). cond (is_eq (slice_cmp nat_cmp n q)) (Some c.loop-at.at) (get (slice_cmp nat_cmp) c.loop-at.by_name q)) key))
      | else-not-contains_key w ↦
          let old = ap (λ (n : List ℕ). is_some (get (slice_cmp nat_cmp) c.loop-at.by_name n)) (sym name) ∙ (sym met ∙ w.if-not-contains_key.false) in
          rw w.by_name-is
          (index_kept class_ref_view (λ k. k.name) c.args.classes.now c.loop-at.at c.index-classes-at.result (get (slice_cmp nat_cmp) c.loop-at.by_name) c.loop-at-test.true c.index-classes-at.is c.loop-at.invariant old)
    ]
