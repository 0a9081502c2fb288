use Rattle.std.proofs.Common.{◌≡◌, take}
use Rattle.mj_tree.proofs.tree.copy_types.Given as goal

abbrev pub invariant-loop-ty : goal.invariant-loop-ty
invariant-loop-ty l = l.copies.items ≡ take l.ty-index l.types
