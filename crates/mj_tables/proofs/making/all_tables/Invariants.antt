use Rattle.std.proofs.Common.{◌≡◌, ◌<◌, ℕ, Some}
use Rattle.mj_tree.specs.Trees.{Name}
use Rattle.mj_classes.specs.Declarations.{place}
use Rattle.mj_classes.specs.Index.{declared_in}
use Rattle.mj_tables.specs.Tables.{AreTables, HasTableAt}
use Rattle.mj_tables.proofs.making.all_tables.Given as goal

abbrev pub invariant-loop-at : goal.invariant-loop-at
invariant-loop-at l = record {
  right : AreTables (declared_in l.declarations) l.tables.items;
  so_far : (c : Name) (at : ℕ) → at < l.at → place (declared_in l.declarations) c ≡ Some at → HasTableAt l.tables.items at;
}
