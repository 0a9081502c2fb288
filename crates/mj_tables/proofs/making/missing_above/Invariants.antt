use Rattle.mj_classes.specs.Index.{declared_in}
use Rattle.mj_classes.specs.Walks.{IsFirstPlace}
use Rattle.mj_tables.specs.Tables.{AreFirstPlaces}
use Rattle.mj_tables.proofs.making.missing_above.Given as goal

abbrev pub invariant-loop : goal.invariant-loop
invariant-loop l = record {
  here : IsFirstPlace (declared_in l.declarations) l.at;
  places : AreFirstPlaces (declared_in l.declarations) l.places.items;
}
