use Rattle.key_states.proofs.RowRules.{AreFirstRanks}
use Rattle.key_states.proofs.rows.ranks_of.Given as goal

abbrev pub invariant-loop-i : goal.invariant-loop-i
invariant-loop-i l = AreFirstRanks l.rows l.ranks.items l.i
