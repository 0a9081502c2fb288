use Rattle.std.proofs.Common.{◌≡◌, ◌-◌, false, length, []}
use Rattle.std.specs.List.{AllByRecursion}
use Rattle.session_file.specs.Reading.{records_from}
use Rattle.session_file.specs.Feeding.{Leads}
use Rattle.session_file.proofs.reading.records.read_records.Given as goal

abbrev pub invariant-loop : goal.invariant-loop
invariant-loop g l = record {
  length : length l.seen ≡ length l.records.items;
  same : l.origin ≡ l.initial.origin;
  unseen : AllByRecursion (λ b. b ≡ false) l.seen;
  lead : Leads (g.F.Feed.holds l.initial.feed) (g.F.Feed.holds l.feed) l.initial.hash l.hash (records_from l.initial.origin [] l.count) (records_from l.initial.origin l.records.items (l.count - l.counter));
  failed : g.F.Feed.failed l.feed ≡ g.F.Feed.failed l.initial.feed;
}
