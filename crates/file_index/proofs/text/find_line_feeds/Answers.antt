use Rattle.std.proofs.Common.{◌≡◌, ◌∙◌, ℕ, true, false, List, [], ◌∷◌, ◌++◌, sym, ap, eq-eqb, ne_eqb}
use Rattle.std.proofs.lemmas.List.{append-nil}
use Rattle.file_index.specs.Lines.{places_where, is_feed_at}
use Rattle.file_index.proofs.Feeds.{grown}
use Rattle.file_index.proofs.text.find_line_feeds.Goals as goal
use Rattle.file_index.proofs.text.find_line_feeds.Goals.{then-text-at-eq10+in_ok-push, else-text-at-eq10}

pub loop-at-preserved : goal.loop-at-preserved
loop-at-preserved c =
    let so_far : c.loop-at.feeds.items ≡ places_where (is_feed_at c.args.text.now) 0 c.loop-at.at = c.loop-at.invariant in
    elim c.if-text-at-eq10.branch [
      | then-text-at-eq10+in_ok-push w ↦
          let here : is_feed_at c.args.text.now c.loop-at.at ≡ true = eq-eqb _ _ w.if-text-at-eq10.true in
          rw w.feeds-is (w.in_ok-push.ensures.items ∙ (ap (λ (l : List ℕ). l ++ c.loop-at.at ∷ []) so_far ∙ sym (grown c.args.text.now c.loop-at.at true here)))
      | else-text-at-eq10 w ↦
          let other : is_feed_at c.args.text.now c.loop-at.at ≡ false = ne_eqb _ _ w.if-text-at-eq10.false in
          rw w.feeds-is (so_far ∙ sym (grown c.args.text.now c.loop-at.at false other ∙ append-nil (places_where (is_feed_at c.args.text.now) 0 c.loop-at.at)))
    ]
