use Rattle.std.proofs.Common.{◌≡◌, length}
use Rattle.key_states.proofs.rows.zeros.Given as goal

abbrev pub invariant-loop : goal.invariant-loop
invariant-loop l = length l.zeros.items ≡ l.counter
