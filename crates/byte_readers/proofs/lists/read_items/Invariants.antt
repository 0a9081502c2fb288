use Rattle.std.proofs.Common.{◌≡◌, ◌-◌, [], map}
use Rattle.byte_readers.specs.Reading.{list_from, any}
use Rattle.byte_readers.proofs.lists.read_items.Given as goal

abbrev pub invariant-loop : goal.invariant-loop
invariant-loop g l = list_from g.F.Format.reading any (map g.F.Format.view.one l.items.items) (l.count - l.counter) l.rest ≡ list_from g.F.Format.reading any [] l.count l.bytes
