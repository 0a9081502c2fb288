use Rattle.std.proofs.lemmas.List.Sorted.{IsPermutation-trans}
use Rattle.key_states.proofs.RowRules.{rows_sorted}
use Rattle.key_states.proofs.rows.sort.Goals as goal

pub returns-clause-same : goal.returns-clause-same
returns-clause-same c = IsPermutation-trans _ _ _ c.sort_by_key.ensures.permutation c.sort.ensures.permutation

pub returns-clause-sorted : goal.returns-clause-sorted
returns-clause-sorted c = rows_sorted c.sort.new.self c.in_ok-sort.ensures.sorted
