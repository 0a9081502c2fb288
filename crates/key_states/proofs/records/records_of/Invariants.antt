use Rattle.std.proofs.Common.{◌≡◌, map, take}
use Rattle.std.specs.List.{AllByRecursion}
use Rattle.graph_rules.specs.Steps.{State}
use Rattle.key_states.specs.Reached.{IsDoneRecord}
use Rattle.key_states.specs.Rows.{AreRowsOf, keys_of}
use Rattle.key_states.proofs.records.records_of.Given as goal

abbrev pub invariant-loop-row : goal.invariant-loop-row
invariant-loop-row l = (map (λ r. r.key) l.records.items ≡ keys_of (take l.row-index l.rows))
    × ((s : State) → AreRowsOf s l.rows l.found → AllByRecursion (IsDoneRecord s (keys_of l.rows)) l.records.items)
