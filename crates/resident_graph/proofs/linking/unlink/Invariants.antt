use Rattle.std.proofs.Common.{◌≡◌, length}
use Rattle.resident_graph.specs.Lists.{WidensBut}
use Rattle.resident_graph.proofs.linking.unlink.Given as goal

abbrev pub invariant-loop-edge : goal.invariant-loop-edge
invariant-loop-edge l = (length l.readers.items ≡ length l.fn.readers.items) × WidensBut l.at l.fn.readers.items l.readers.items
