use Rattle.std.proofs.Common.{◌≡◌, ◌-◌, length, []}
use Rattle.sessions.proofs.EdgeLaws.{SoFar}
use Rattle.session_file.specs.Reading.{edges_from}
use Rattle.session_file.specs.Feeding.{Leads}
use Rattle.session_file.proofs.reading.edges.read_items.Given as goal

abbrev pub invariant-loop : goal.invariant-loop
invariant-loop g l = record {
  so_far : SoFar l.seen l.front l.key l.edges.items;
  length : length l.seen ≡ length l.initial.seen;
  lead : Leads (g.F.Feed.holds l.initial.feed) (g.F.Feed.holds l.feed) l.initial.hash l.hash (edges_from l.front l.key [] l.count) (edges_from l.front l.key l.edges.items (l.count - l.counter));
  failed : g.F.Feed.failed l.feed ≡ g.F.Feed.failed l.initial.feed;
}
