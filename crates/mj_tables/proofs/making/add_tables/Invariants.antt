use Rattle.mj_classes.specs.Index.{declared_in}
use Rattle.mj_tables.specs.Tables.{AreTables, Grow}
use Rattle.mj_tables.proofs.making.add_tables.Given as goal

abbrev pub invariant-loop-number : goal.invariant-loop-number
invariant-loop-number l = record {
  right : AreTables (declared_in l.declarations) l.tables.items;
  grow : Grow l.initial.tables.items l.tables.items;
}
