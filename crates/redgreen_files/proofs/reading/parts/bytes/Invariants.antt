use Rattle.std.proofs.Common.{length, ◌+◌, ◌≡◌}
use Rattle.redgreen_files.specs.Feeding.{Moved}
use Rattle.redgreen_files.proofs.reading.parts.bytes.Given as goal

abbrev pub invariant-loop-left : goal.invariant-loop-left
invariant-loop-left g l = record {
  moved : Moved (g.F.Feed.holds l.initial.feed) (g.F.Feed.holds l.feed) l.initial.hash l.hash l.text.items;
  size : length l.text.items + l.left ≡ l.count;
  failed : g.F.Feed.failed l.feed ≡ g.F.Feed.failed l.initial.feed;
}

abbrev pub decreases-loop-left : goal.decreases-loop-left
decreases-loop-left g l = l.left
