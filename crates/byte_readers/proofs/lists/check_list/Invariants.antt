use Rattle.std.proofs.Common.{◌<◌, ◌^◌, length, drop, map}
use Rattle.std.specs.List.{AllByRecursion}
use Rattle.byte_readers.proofs.lists.check_list.Given as goal

abbrev pub invariant-loop-item : goal.invariant-loop-item
invariant-loop-item g l = record {
  few : length l.items < 2 ^ 64;
  storable : AllByRecursion g.F.Format.is_storable (drop l.item-index l.items);
  each : AllByRecursion g.F.Format.has_spelling (map g.F.Format.view.one (drop l.item-index l.items)) → AllByRecursion g.F.Format.has_spelling (map g.F.Format.view.one l.items);
}
