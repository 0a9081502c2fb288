use Rattle.std.proofs.Common.{◌≡◌, ℕ, ◌<◌, length, get_or, Contains}
use Rattle.resident_graph.specs.Lists.{list_in, Widens}
use Rattle.resident_graph.proofs.linking.link.Given as goal

abbrev pub invariant-loop-edge : goal.invariant-loop-edge
invariant-loop-edge l = (length l.readers.items ≡ length l.fn.readers.items)
    × Widens l.fn.readers.items l.readers.items
    × ((k : ℕ) → k < l.edge-index → get_or l.edges k 0 < length l.fn.readers.items → Contains (list_in l.readers.items (get_or l.edges k 0)) l.at)
