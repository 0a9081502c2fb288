use mathlib.Core.List.{IsPrefix}
use Rattle.shared_table.proofs.seat.SeatStore.ask.Given as goal

abbrev pub invariant-asks : goal.invariant-asks
invariant-asks g l =
    (goal.iterator-asks g).can_next l.iterator' × (goal.iterator-asks g).is_finite l.iterator'
    × IsPrefix l.fn.self.memo l.self.memo
