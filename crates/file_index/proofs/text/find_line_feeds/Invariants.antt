use Rattle.std.proofs.Common.{◌≡◌}
use Rattle.file_index.specs.Lines.{places_where, is_feed_at}
use Rattle.file_index.proofs.text.find_line_feeds.Given as goal

abbrev pub invariant-loop-at : goal.invariant-loop-at
invariant-loop-at l = l.feeds.items ≡ places_where (is_feed_at l.text) 0 l.at
