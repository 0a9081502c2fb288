use Rattle.std.proofs.Common.{◌≡◌, length, map, take}
use Rattle.std.specs.List.{concat}
use Rattle.redgreen_words.specs.Feeding.{Given as GivenBytes}
use Rattle.redgreen_words.proofs.taking.take_strings.Given as goal

abbrev pub invariant-loop-k : goal.invariant-loop-k
invariant-loop-k g l = record {
  given : GivenBytes (g.F.Feed.holds l.initial.feed) (g.F.Feed.holds l.feed) (concat l.list.items);
  sizes : map length l.list.items ≡ take l.k l.lengths;
  failed : g.F.Feed.failed l.feed ≡ g.F.Feed.failed l.initial.feed;
}
