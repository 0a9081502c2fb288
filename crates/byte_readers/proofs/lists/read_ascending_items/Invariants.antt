use Rattle.std.proofs.Common.{◌≡◌, ◌-◌, []}
use Rattle.byte_readers.specs.Reading.{list_from}
use Rattle.byte_readers.specs.Orders.{is_after}
use Rattle.byte_readers.proofs.lists.read_ascending_items.Given as goal

abbrev pub invariant-loop : goal.invariant-loop
invariant-loop g l = list_from g.F.Ordered.item_reading (is_after g.F.Ordered.precedes) l.items.items (l.count - l.counter) l.rest ≡ list_from g.F.Ordered.item_reading (is_after g.F.Ordered.precedes) [] l.count l.bytes
