use Rattle.std.proofs.Common.{length, ◌-◌, ◌≡◌, ◌≤◌, take}
use Rattle.redgreen_files.specs.Feeding.{Given as GivenBytes}
use Rattle.redgreen_files.proofs.reading.feeding.fill.Given as goal

abbrev pub invariant-loop-at : goal.invariant-loop-at
invariant-loop-at g l = record {
  within : l.at ≤ length l.room;
  length : length l.room ≡ length l.initial.room;
  given : GivenBytes (g.F.Feed.holds l.initial.feed) (g.F.Feed.holds l.feed) (take l.at l.room);
  failed : g.F.Feed.failed l.feed ≡ g.F.Feed.failed l.initial.feed;
}

abbrev pub decreases-loop-at : goal.decreases-loop-at
decreases-loop-at g l = length l.initial.room - l.at
