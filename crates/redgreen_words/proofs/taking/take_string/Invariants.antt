use Rattle.std.proofs.Common.{◌≡◌, ◌+◌, length}
use Rattle.redgreen_words.specs.Feeding.{Given as GivenBytes}
use Rattle.redgreen_words.proofs.taking.take_string.Given as goal

abbrev pub invariant-loop-left : goal.invariant-loop-left
invariant-loop-left g l = record {
  given : GivenBytes (g.F.Feed.holds l.initial.feed) (g.F.Feed.holds l.feed) l.text.items;
  size : length l.text.items + l.left ≡ l.count;
  failed : g.F.Feed.failed l.feed ≡ g.F.Feed.failed l.initial.feed;
}

abbrev pub decreases-loop-left : goal.decreases-loop-left
decreases-loop-left g l = l.left
