use Rattle.std.proofs.Common.{◌≡◌, ◌<◌, map, take, length}
use Rattle.std.specs.List.{AllByRecursion}
use Rattle.recorder.specs.Backed.{keys}
use Rattle.resident_graph.specs.Lists.{key_in}
use Rattle.resident_graph.proofs.running.places_read.Given as goal

abbrev pub invariant-loop-read : goal.invariant-loop-read
invariant-loop-read l = (map (key_in l.keys.keys) l.places.items ≡ keys (take l.read-index l.reads))
    × AllByRecursion (λ e. e < length l.keys.keys) l.places.items
