use Rattle.std.proofs.Common.{◌≡◌, take}
use Rattle.key_states.specs.Reached.{EachAt}
use Rattle.key_states.specs.Rows.{keys_of}
use Rattle.key_states.proofs.rows.found_rows.Given as goal

abbrev pub invariant-loop-at : goal.invariant-loop-at
invariant-loop-at l = (keys_of l.rows.items ≡ take l.at l.found) × EachAt (λ i r. r.at ≡ i) l.rows.items
