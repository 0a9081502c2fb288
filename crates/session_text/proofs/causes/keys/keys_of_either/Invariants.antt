use Rattle.std.proofs.Common.{◌+◌, ◌-◌, ◌≤◌, List, ◌++◌, length, map}
use Rattle.item_ids.specs.declared.key.Key.{Key}
use Rattle.session_text.proofs.KeyRules.{keys_in}
use Rattle.session_text.proofs.Merging.{IsMerge, MergeFrom}
use Rattle.session_text.proofs.causes.keys.keys_of_either.Given as goal

abbrev pub invariant-loop-step : goal.invariant-loop-step
invariant-loop-step l = record {
  before_left : l.i ≤ length l.before;
  records_left : l.j ≤ length l.records;
  merges : (rest : List Key) → MergeFrom (keys_in l.before) (keys_in l.records) l.i l.j rest → IsMerge (keys_in l.before) (keys_in l.records) (map (λ key. key.now) l.keys.items ++ rest);
}

abbrev pub decreases-loop-step : goal.decreases-loop-step
decreases-loop-step l = length l.before + length l.records - (l.i + l.j)
