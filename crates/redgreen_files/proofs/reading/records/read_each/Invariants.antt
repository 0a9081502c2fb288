use Rattle.std.proofs.Common.{◌≡◌, ◌-◌, [], map}
use Rattle.redgreen_files.specs.Spelling.{value_of}
use Rattle.redgreen_files.specs.Reading.{many_from, record_at}
use Rattle.redgreen_files.specs.Feeding.{Leads}
use Rattle.redgreen_files.proofs.reading.records.read_each.Given as goal

abbrev pub invariant-loop : goal.invariant-loop
invariant-loop g l = record {
  lead : Leads (g.F.Feed.holds l.initial.feed) (g.F.Feed.holds l.feed) l.initial.hash l.hash (many_from record_at [] l.count) (many_from record_at (map value_of l.records.items) (l.count - l.counter));
  failed : g.F.Feed.failed l.feed ≡ g.F.Feed.failed l.initial.feed;
}
