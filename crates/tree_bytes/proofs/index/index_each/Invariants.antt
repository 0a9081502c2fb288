use Rattle.std.proofs.Common.{map, take}
use Rattle.tree_bytes.specs.Stored.{stored_class}
use Rattle.tree_bytes.specs.Indexes.{FindsEach}
use Rattle.tree_bytes.proofs.index.index_each.Given as goal

abbrev pub invariant-loop-class : goal.invariant-loop-class
invariant-loop-class l = FindsEach l.each.items (map stored_class (take l.class-index l.classes))
