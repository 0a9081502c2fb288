use Rattle.std.proofs.Common.{◌≡◌, ◌++◌, map}
use Rattle.std.specs.List.{AllByRecursion}
use Rattle.mj_tree.specs.Views.{class_view}
use Rattle.tree_spelling.specs.Storable.{ClassFits}
use Rattle.tree_bytes.specs.Stored.{stored_class}
use Rattle.tree_bytes.proofs.stored.store_classes.Given as goal

-- those so far and those of the rest are all, and those of the rest fit
abbrev pub invariant-loop-class : goal.invariant-loop-class
invariant-loop-class l = record {
  all : map stored_class l.stored.items ++ map class_view l.class-iterator.rest.items ≡ map class_view l.fn.classes.items;
  fit : AllByRecursion ClassFits (map class_view l.class-iterator.rest.items);
}
