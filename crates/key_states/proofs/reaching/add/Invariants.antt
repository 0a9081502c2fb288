use Rattle.std.proofs.Common.{◌≡◌, ◌<◌, map, take, length}
use Rattle.std.specs.List.{AllByRecursion}
use Rattle.key_states.specs.Reached.{AddsKeys, key_in}
use Rattle.key_states.proofs.reaching.add.Given as goal

abbrev pub invariant-loop-i : goal.invariant-loop-i
invariant-loop-i l = AddsKeys l.fn.keys.keys (take l.i l.edges) l.keys.keys
    × (map (key_in l.keys.keys) l.places.items ≡ take l.i l.edges)
    × AllByRecursion (λ e. e < length l.keys.keys) l.places.items
