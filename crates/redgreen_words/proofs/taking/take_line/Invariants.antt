use Rattle.std.proofs.Common.{◌≡◌, ◌-◌, ◌≤◌, length}
use Rattle.redgreen_words.specs.Words.{IsOneLine}
use Rattle.redgreen_words.specs.Feeding.{Given as GivenBytes}
use Rattle.redgreen_words.proofs.taking.take_line.Given as goal

abbrev pub invariant-next : goal.invariant-next
invariant-next g l = record {
  given : GivenBytes (g.F.Feed.holds l.initial.feed) (g.F.Feed.holds l.feed) l.line.items;
  one : IsOneLine l.line.items;
  short : length l.line.items ≤ 1048576;
  failed : g.F.Feed.failed l.feed ≡ g.F.Feed.failed l.initial.feed;
}

abbrev pub decreases-next : goal.decreases-next
decreases-next g l = 1048576 - length l.line.items
