use Rattle.std.proofs.Common.{◌≡◌, map, take}
use Rattle.mj_tree.specs.Views.{method_view}
use Rattle.tree_bytes.proofs.stored.store_methods.Given as goal

-- those so far
abbrev pub invariant-loop-method : goal.invariant-loop-method
invariant-loop-method l = l.stored.items ≡ map method_view (take l.method-index l.methods)
