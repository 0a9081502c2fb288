use Rattle.std.proofs.Common.{◌≡◌, map, take}
use Rattle.key_states.specs.Rows.{rank_in}
use Rattle.key_states.proofs.records.ranks_at.Given as goal

abbrev pub invariant-loop-place : goal.invariant-loop-place
invariant-loop-place l = l.found.items ≡ map (rank_in l.ranks) (take l.place-index l.places)
