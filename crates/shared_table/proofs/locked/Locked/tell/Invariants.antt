use Rattle.std.specs.Prelude.{◌≡◌}
use Rattle.shared_table.proofs.locked.Locked.tell.Given as goal

abbrev pub invariant-tells : goal.invariant-tells
invariant-tells g l =
    (goal.iterator-tells g).can_next l.iterator' × (goal.iterator-tells g).is_finite l.iterator'
    × l.self ≡ l.fn.self × l.memo ≡ l.fn.memo
